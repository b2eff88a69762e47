-- What headers and items break, where they are refused.
use Rattle.std.proofs.Common.{◌≡◌, inl, inr, ℕ, ◌+◌, ◌-◌, cond, List, [], ◌∷◌, ◌++◌, map, flat_map, drop, length, slice_get, slice_range, Contains, Some, None, refl, sym, ap, subst, ◌∙◌, arith}
use Rattle.std.specs.List.{filter}
use Rattle.std.proofs.lemmas.List.Elements.{Contains-append_right}
use Rattle.name_scope.specs.Newest.{newest}
use Rattle.flow_value.specs.declared.ty.Ty.{Ty}
use Rattle.type_table.specs.declared.form.Form.{Form}
use Rattle.sisal_lex.specs.declared.token.Token.{Token}
use Rattle.sisal_tree.specs.declared.unit.Written.{Written}
use Rattle.sisal_tree.specs.declared.unit.Field.{Field}
use Rattle.sisal_tree.specs.declared.unit.Header.{Header}
use Rattle.sisal_tree.specs.declared.unit.TypeDef.{TypeDef}
use Rattle.sisal_tree.specs.declared.unit.FunDef.{FunDef}
use Rattle.sisal_tree.specs.declared.unit.Item.{Item}
use Rattle.sisal_tree.specs.declared.unit.Item.TheVariants as item
use Rattle.sisal_tree.specs.declared.unit.Unit as tree
use Rattle.sisal_grammar.specs.Placed.{placed}
use Rattle.typed_tree.specs.Typing.{names_of}
use Rattle.typed_tree.specs.Units.{is_given}
use Rattle.typed_tree.specs.Breaks.{IsTwice}
use Rattle.typed_tree.specs.Written.{Misnames}
use Rattle.typed_tree.specs.Faults.{misnames, functions, given_names, BreaksHeader, in_param, in_result, twice, BreaksItems, BreaksUnit, in_type, two_types, in_header, in_items, two_functions, built_in}
use Rattle.unit_types.specs.declared.header.Signature.{Signature}
use Rattle.unit_types.specs.declared.declaring.Announced.{Announced}
use Rattle.unit_types.specs.Headings.{given_as, numbering, IsTaken, IsBroken, missing, other}
use Rattle.unit_types.specs.Headers.{IsOf, IsDeclaring, AreGiven, BreaksAt}
use Rattle.unit_types.specs.Rests.{AreKnown, AreTokensSpelled, IsUsed, HasNames}
use Rattle.unit_types.proofs.Names.{twice_at, contains_cases}
use Rattle.unit_types.proofs.Places.{at_place}
use Rattle.unit_types.proofs.Numbered.{numbering_finds}
use Rattle.unit_types.proofs.Reading.{unused, names_later}
use Rattle.unit_types.proofs.Known.{some_known}
use Rattle.unit_types.proofs.Naming.{all_known}
use Rattle.unit_types.proofs.Given.{given_kind}

-- ---- headers that are announced

only_one : {A : Type 0} (x y : A) → Contains (x ∷ []) y → x ≡ y
only_one x y c = elim (contains_cases x [] y c) [ inl e ↦ e | inr none ↦ absurd (omega (arith, none.1)) ]

-- what one of them breaks
pub broken_among : (numbers : List (ℕ × ℕ)) (functions : List Signature) (announced : List Announced) (a : Announced) → Contains announced a → (rule line : ℕ)
    → IsBroken numbers functions (a ∷ []) rule line → IsBroken numbers functions announced rule line
broken_among numbers functions announced a there _ _ (missing b c none) = missing b (subst (Contains announced) (only_one a b c) there) none
broken_among numbers functions announced a there _ _ (other b s c found unlike) = other b s (subst (Contains announced) (only_one a b c) there) found unlike

-- ---- written types

-- what a written type breaks, by the call that reads it
abbrev pub Misnaming : (tokens : List Token) (w : Written) (old : List Form) (known : List (ℕ × ℕ)) (rule line : ℕ) → Type 0
Misnaming tokens w old known rule line = (sp : List (List ℕ)) (types : List (ℕ × Ty)) → AreTokensSpelled sp tokens → AreKnown old sp known types
    → Misnames sp types (slice_range (placed 0 tokens) w.from w.to) rule line

pub misnamed : (u : tree.Unit) (types : List (ℕ × Ty)) (tokens : List Token) → u.tokens.list ≡ tokens → AreTokensSpelled u.tokens.names tokens → (known : List (ℕ × ℕ)) (w : Written) (first old : List Form) (rule line : ℕ)
    → HasNames u.tokens.names first known types → IsUsed tokens first old → Misnaming tokens w old known rule line → misnames u types w rule line
misnamed u types tokens is h known w first old rule line names used f =
    let m : HasNames u.tokens.names old known types = names_later tokens first old u.tokens.names known types used h names in
    subst (λ l. Misnames u.tokens.names types (slice_range (placed 0 l) w.from w.to) rule line) (sym is) (f u.tokens.names types h m.named)

-- the names that are known to a count of all
pub names_to : (sp : List (List ℕ)) (forms : List Form) (named : List (ℕ × ℕ)) (types : List (ℕ × Ty)) (known : ℕ) → known ≡ length named → HasNames sp forms named types → HasNames sp forms (drop (length named - known) named) types
names_to sp forms named types known e n = subst (λ l. HasNames sp forms l types) (sym (all_known named known e)) n

-- ---- headers

pub header_twice : (u : tree.Unit) (types : List (ℕ × Ty)) (h : Header) (fields : List Field) (rule line : ℕ) → fields ≡ h.params → (rule ≡ 8) × IsTwice (flat_map (λ f. f.names) fields) line → BreaksHeader u types h rule line
header_twice u types h fields rule line e t = subst (λ r. BreaksHeader u types h r line) (sym t.0) (twice (subst (λ l. IsTwice (flat_map (λ f. f.names) l) line) e t.1))

pub header_param : (u : tree.Unit) (types : List (ℕ × Ty)) (h : Header) (fields : List Field) (rule line : ℕ) → fields ≡ h.params → (f : Field) × Contains fields f × misnames u types f.ty rule line → BreaksHeader u types h rule line
header_param u types h fields rule line e p = in_param (subst (λ l. Contains l p.0) e p.1) p.2

pub header_result : (u : tree.Unit) (types : List (ℕ × Ty)) (h : Header) (written : List Written) (rule line : ℕ) → written ≡ h.results → (w : Written) × Contains written w × misnames u types w rule line → BreaksHeader u types h rule line
header_result u types h written rule line e p = in_result (subst (λ l. Contains l p.0) e p.1) p.2

-- ---- items

module _ (tokens : List Token) (spellings : List (List ℕ)) (forms : List Form) (named : List (ℕ × ℕ)) (headers : List Signature) (announced : List Announced) where
  pub type_broken : (d : TypeDef) (known rule line : ℕ) → known ≡ length named → Misnaming tokens d.ty forms (drop (length named - known) named) rule line
      → BreaksAt tokens spellings (item.Alias d) forms named headers announced rule line
  type_broken d known rule line count f = record {
    breaks = λ u n of e g r.
        let m : misnames u r.types d.ty rule line = misnamed u r.types tokens of.list of.spelled (drop (length named - known) named) d.ty forms forms rule line
        (names_to u.tokens.names forms named r.types known count r.names) (unused tokens forms) f in
        in_items (r.breaks rule line (subst (λ l. BreaksItems u r.types l rule line) (sym e) (in_type m)));
  }

  pub type_twice : (d : TypeDef) → (newest d.name named ≡ None → ⊥) → BreaksAt tokens spellings (item.Alias d) forms named headers announced 1 d.line
  type_twice d there = record {
    breaks = λ u n of e g r.
        let a : (a : Ty) × (newest d.name r.types ≡ Some a) = some_known forms u.tokens.names d.name named r.types r.names.named there in
        in_items (r.breaks 1 d.line (subst (λ l. BreaksItems u r.types l 1 d.line) (sym e) (two_types a.1)));
  }

  pub header_broken : (f : FunDef) (rule line : ℕ)
      → ((u : tree.Unit) (types : List (ℕ × Ty)) → u.tokens.list ≡ tokens → AreTokensSpelled u.tokens.names tokens → HasNames u.tokens.names forms named types → BreaksHeader u types f.header rule line)
      → BreaksAt tokens spellings (item.Function f) forms named headers announced rule line
  header_broken f rule line h = record {
    breaks = λ u n of e g r. in_items (r.breaks rule line (subst (λ l. BreaksItems u r.types l rule line) (sym e) (in_header (h u r.types of.list of.spelled r.names))));
  }

  pub name_taken : (f : FunDef) (numbers : List (ℕ × ℕ)) (s : Signature) → numbers ≡ numbering 0 [] (map (λ s. s.name) headers) → s.name ≡ f.header.name.name → given_as f.kind s ≡ s ∷ []
      → IsTaken spellings numbers s.name → BreaksAt tokens spellings (item.Function f) forms named headers announced 6 f.header.name.line
  name_taken f numbers s count same whole taken = record { breaks = λ u n of e g r. here u n of e g taken }
    where
      given_first : (rest : List Item) → given_names (item.Function f ∷ rest) ≡ f.header.name ∷ given_names rest
      given_first rest = ap (λ b. map (λ f. f.header.name) (cond b (f ∷ filter is_given (functions rest)) (filter is_given (functions rest)))) (given_kind f s whole)

      here : (u : tree.Unit) (n : ℕ) → IsOf tokens spellings u → drop n u.items ≡ item.Function f ∷ drop (n + 1) u.items → AreGiven u.items n headers → IsTaken spellings numbers s.name
          → BreaksUnit u 6 f.header.name.line
      here u n of e g (inl b) =
          let all : given_names u.items ≡ g.before ++ (f.header.name ∷ given_names (drop (n + 1) u.items)) = g.whole ∙ ap (λ l. g.before ++ l) (ap given_names e ∙ given_first (drop (n + 1) u.items)) in
          let there : Contains (given_names u.items) f.header.name
          = subst (λ l. Contains l f.header.name) (sym all) (Contains-append_right g.before (f.header.name ∷ given_names (drop (n + 1) u.items)) f.header.name (0, omega arith, refl)) in
          let spelled : slice_get u.tokens.names f.header.name.name ≡ Some b.0 = ap (λ l. slice_get l f.header.name.name) of.names ∙ ap (slice_get spellings) (sym same) ∙ b.1 in
          built_in b.2.0 there (record { spelling = b.0; spelled = spelled; named = b.2.1 })
      here u n of e g (inr k) =
          let all : given_names u.items ≡ g.before ++ (f.header.name ∷ given_names (drop (n + 1) u.items)) = g.whole ∙ ap (λ l. g.before ++ l) (ap given_names e ∙ given_first (drop (n + 1) u.items)) in
          let at : slice_get (map (λ s. s.name) headers) k.0 ≡ Some s.name = numbering_finds (map (λ s. s.name) headers) s.name k.0 (ap (newest s.name) (sym count) ∙ k.1) in
          let there : Contains (names_of g.before) f.header.name.name
          = subst (Contains (names_of g.before)) same (subst (λ l. Contains l s.name) (sym g.named) (at_place (map (λ s. s.name) headers) k.0 s.name at)) in
          two_functions (subst (λ l. IsTwice l f.header.name.line) (sym all) (twice_at g.before f.header.name (given_names (drop (n + 1) u.items)) there))

  pub taken_at : (f : FunDef) (numbers : List (ℕ × ℕ)) (s : Signature) (rule line : ℕ) → numbers ≡ numbering 0 [] (map (λ s. s.name) headers) → s.name ≡ f.header.name.name
      → (rule ≡ 6) × (line ≡ f.header.name.line) × (given_as f.kind s ≡ s ∷ []) × IsTaken spellings numbers s.name → BreaksAt tokens spellings (item.Function f) forms named headers announced rule line
  taken_at f numbers s rule line count same t =
      subst (λ r. BreaksAt tokens spellings (item.Function f) forms named headers announced r line) (sym t.0)
      (subst (BreaksAt tokens spellings (item.Function f) forms named headers announced 6) (sym t.1) (name_taken f numbers s count same t.2 t.3))

-- an item of a unit whose items before it are declared
pub broken_at : (tokens : List Token) (spellings : List (List ℕ)) (items : List Item) (i : ℕ) (x : Item) (forms : List Form) (named : List (ℕ × ℕ)) (headers : List Signature) (announced : List Announced) (rule line : ℕ)
    → drop i items ≡ x ∷ drop (i + 1) items → AreGiven items i headers
    → ((u : tree.Unit) → u.tokens.list ≡ tokens → AreTokensSpelled u.tokens.names tokens → IsDeclaring u items i forms named headers announced)
    → BreaksAt tokens spellings x forms named headers announced rule line → (u : tree.Unit) → IsOf tokens spellings u → u.items ≡ items → BreaksUnit u rule line
broken_at tokens spellings items i x forms named headers announced rule line e g d b u of is =
    b.breaks u i of (subst (λ l. drop i l ≡ x ∷ drop (i + 1) l) (sym is) e) (subst (λ l. AreGiven l i headers) (sym is) g)
    (subst (λ l. IsDeclaring u l i forms named headers announced) (sym is) (d u of.list of.spelled))
