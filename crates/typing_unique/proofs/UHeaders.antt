-- A header, or items, that break a rule say nothing.
use Rattle.std.proofs.Common.{◌≡◌, ℕ, true, false, List, [], ◌∷◌, ◌++◌, flat_map, Contains, refl, sym, ap, subst, ◌∙◌, ◌⊎◌, inl, inr, append-nil}
use Rattle.std.proofs.lemmas.List.{map-append}
use Rattle.flow_value.specs.declared.ty.Ty.{Ty}
use Rattle.sisal_tree.specs.declared.unit.Named.{Named}
use Rattle.sisal_tree.specs.declared.unit.Written.{Written}
use Rattle.sisal_tree.specs.declared.unit.Field.{Field}
use Rattle.sisal_tree.specs.declared.unit.Header.{Header}
use Rattle.sisal_tree.specs.declared.unit.Item.{Item}
use Rattle.sisal_tree.specs.declared.unit.Unit as tree
use Rattle.typed_tree.specs.Scopes.{AreDistinct}
use Rattle.typed_tree.specs.Typing.{Signature, names_of}
use Rattle.typed_tree.specs.Breaks.{IsTwice}
use Rattle.typed_tree.specs.Units.{Declared, written, denotes, HasParams, no_field, a_field, HasResults, no_result, a_result, IsHeader, Declares, a_type, a_function}
use Rattle.typed_tree.specs.Faults.{misnames, BreaksHeader, in_param, in_result, twice, BreaksItems, in_type, two_types, in_header, after_type, after_function}
use Rattle.typing_unique.proofs.UOne.{none_denoted}
use Rattle.typing_unique.proofs.UOnce.{distinct_once, twice_once}
use Rattle.typing_unique.proofs.UReader.{once}
use Rattle.typing_unique.proofs.UDeclared.{there_cases, none_there, one_type}

pub twice_distinct : (ns : List Named) (line : ℕ) → IsTwice ns line → AreDistinct (names_of ns) → ⊥
twice_distinct ns line t d =
    let one : once (names_of ns) ≡ true = distinct_once (names_of ns) d in
    let no : once (names_of ns) ≡ false = ap (λ l. once (names_of l)) (sym (append-nil ns)) ∙ twice_once ns [] line t in
    cc

module _ (u : tree.Unit) where
  pub no_type : (types : List (ℕ × Ty)) (w : Written) (rule line : ℕ) (a : Ty) → misnames u types w rule line → denotes u types w a → ⊥
  no_type types w rule line a m d = none_denoted u.tokens.names types (written u w) rule line a m d

  params_denoted : (types : List (ℕ × Ty)) (fs : List Field) (xs : List ℕ) (tys : List Ty) (f : Field) → HasParams u types fs xs tys → Contains fs f
      → (a : Ty) × denotes u types f.ty a
  params_denoted types _ _ _ f no_field c = absurd (none_there f c)
  params_denoted types _ _ _ f (a_field {f = g} {a = a} {fs = fs} {xs = xs} {tys = tys} d p) c = by (there_cases f g fs c) (params_denoted types fs xs tys f p)
    where
      by : (g ≡ f) ⊎ Contains fs f → (Contains fs f → (a : Ty) × denotes u types f.ty a) → (a : Ty) × denotes u types f.ty a
      by (inl e) rest = (a, subst (λ h. denotes u types h.ty a) e d)
      by (inr k) rest = rest k

  results_denoted : (types : List (ℕ × Ty)) (ws : List Written) (tys : List Ty) (w : Written) → HasResults u types ws tys → Contains ws w → (a : Ty) × denotes u types w a
  results_denoted types _ _ w no_result c = absurd (none_there w c)
  results_denoted types _ _ w (a_result {w = v} {a = a} {ws = ws} {tys = tys} d p) c = by (there_cases w v ws c) (results_denoted types ws tys w p)
    where
      by : (v ≡ w) ⊎ Contains ws w → (Contains ws w → (a : Ty) × denotes u types w a) → (a : Ty) × denotes u types w a
      by (inl e) rest = (a, subst (λ h. denotes u types h a) e d)
      by (inr k) rest = rest k

  params_named : (types : List (ℕ × Ty)) (fs : List Field) (xs : List ℕ) (tys : List Ty) → HasParams u types fs xs tys → xs ≡ names_of (flat_map (λ f. f.names) fs)
  params_named types _ _ _ no_field = refl
  params_named types _ _ _ (a_field {f = f} {fs = fs} {xs = xs} {tys = tys} d p) =
      ap (λ l. names_of f.names ++ l) (params_named types fs xs tys p) ∙ sym (map-append (λ n. n.name) f.names (flat_map (λ f. f.names) fs))

  no_header : (types : List (ℕ × Ty)) (h : Header) (s : Signature) (rule line : ℕ) → BreaksHeader u types h rule line → IsHeader u types h s → ⊥
  no_header types h s _ _ (in_param {f = f} {rule = rule} {line = line} c m) p =
      let d = params_denoted types h.params s.parameters s.params f p.params c in no_type types f.ty rule line d.0 m d.1
  no_header types h s _ _ (in_result {w = w} {rule = rule} {line = line} c m) p =
      let d = results_denoted types h.results s.results w p.results c in no_type types w rule line d.0 m d.1
  no_header types h s _ _ (twice {line = line} t) p =
      twice_distinct (flat_map (λ f. f.names) h.params) line t (subst AreDistinct (params_named types h.params s.parameters s.params p.params) p.distinct)

  pub no_items : (types : List (ℕ × Ty)) (items : List Item) (ds : List Declared) (rule line : ℕ) → BreaksItems u types items rule line → Declares u types items ds → ⊥
  no_items types _ ds _ _ (in_type {d = d} {rule = rule} {line = line} m) (a_type {a = a} e n p) = no_type types d.ty rule line a m e
  no_items types _ ds _ _ (two_types f) (a_type e n p) = cc
  no_items types _ _ _ _ (in_header {f = f} {rule = rule} {line = line} b) (a_function {s = s} h p) = no_header types f.header s rule line b h
  no_items types _ ds _ _ (after_type {d = d} {a = a} {items = items} {rule = rule} {line = line} f m b) (a_type {a = c} e n p) =
      no_items ((d.name, a) ∷ types) items ds rule line b (subst (λ t. Declares u ((d.name, t) ∷ types) items ds) (one_type u types d.ty c a e f) p)
  no_items types _ _ _ _ (after_function {items = items} {rule = rule} {line = line} b) (a_function {ds = ds} h p) = no_items types items ds rule line b p
