-- The types and functions of a unit are fair.
use Rattle.std.proofs.Common.{◌≡◌, ℕ, suc, Bool, true, false, List, [], ◌∷◌, map, Contains, All, refl, sym, subst, ◌∙◌, ◌⊎◌, inl, inr, Option, Some, slice_get, if◌then◌else◌, nat_eq, arith}
use Rattle.std.proofs.lemmas.List.Elements.{All-nil, All-cons, All-append, All-contains}
use Rattle.name_scope.specs.Newest.{newest}
use Rattle.flow_value.specs.declared.ty.Ty.{Ty}
use Rattle.type_table.specs.declared.form.Form.{Form}
use Rattle.sisal_tree.specs.declared.unit.Named.{Named}
use Rattle.sisal_tree.specs.declared.unit.Written.{Written}
use Rattle.sisal_tree.specs.declared.unit.Field.{Field}
use Rattle.sisal_tree.specs.declared.unit.Item.{Item}
use Rattle.sisal_tree.specs.declared.unit.Unit as tree
use Rattle.typed_tree.specs.declared.built_in.BuiltIn.{BuiltIn}
use Rattle.typed_tree.specs.Typing.{Signature, IsFunction, IsBuiltIn}
use Rattle.typed_tree.specs.Breaks.{NoBuiltIn}
use Rattle.typed_tree.specs.Units.{is_given, Declared, given, signatures, written, denotes, known, HasParams, no_field, a_field, HasResults, no_result, a_result, Declares, no_item, a_type, a_function, AreDeclared}
use Rattle.typed_tree.specs.Faults.{misnames}
use Rattle.typing_unique.specs.Fair.{IsProper, IsFair}
use Rattle.typing_unique.specs.UnitLaws.{AreSpelledOnce}
use Rattle.typing_unique.proofs.UProper.{denoted_proper}
use Rattle.typing_unique.proofs.UDeclared.{there_cases, none_there, got_there, filter_there, same_named, one_type}
use Rattle.typing_unique.proofs.UHeaders.{no_type}

-- what is in a list of values is one of something
pub map_from : {A B : Type 0} (f : A → B) (y : B) (xs : List A) → Contains (map f xs) y → (x : A) × Contains xs x × (f x ≡ y)
map_from f y [] h = absurd (none_there y h)
map_from {A} {B} f y (x ∷ xs) h = by (there_cases y (f x) (map f xs) h) (map_from f y xs)
  where
    by : (f x ≡ y) ⊎ Contains (map f xs) y → (Contains (map f xs) y → (z : A) × Contains xs z × (f z ≡ y)) → (z : A) × Contains (x ∷ xs) z × (f z ≡ y)
    by (inl e) rest = (x, (0, omega arith, refl), e)
    by (inr c) rest = let r = rest c in (r.0, (suc r.1.0, omega (arith, r.1.1), r.1.2), r.2)

-- names of types that are proper
pub record AreKnownProper (types : List (ℕ × Ty)) : Type 0 where
  pub each : (x : ℕ) (a : Ty) → newest x types ≡ Some a → IsProper a

known_if : (b : Bool) (a c : Ty) (o : Option Ty) → IsProper a → (o ≡ Some c → IsProper c) → (if b then Some a else o) ≡ Some c → IsProper c
known_if true a c o p rest e = let same : a ≡ c = cc in subst IsProper same p
known_if false a c o p rest e = rest e

known_more : (n : ℕ) (a : Ty) (types : List (ℕ × Ty)) → IsProper a → AreKnownProper types → AreKnownProper ((n, a) ∷ types)
known_more n a types p k = record { each = λ x c. known_if (nat_eq x n) a c (newest x types) p (k.each x c) }

-- a function whose types are proper
pub record IsProperFunction (d : Declared) : Type 0 where
  pub types : AreKnownProper d.types
  pub params : All IsProper d.signature.params
  pub results : All IsProper d.signature.results

all_one : (a : Ty) (ns : List Named) → IsProper a → All IsProper (map (λ n. a) ns)
all_one a [] p = All-nil IsProper
all_one a (n ∷ ns) p = All-cons IsProper a (map (λ n. a) ns) p (all_one a ns p)

module _ (u : tree.Unit) (once : AreSpelledOnce u.tokens.names) where
  pub proper : (types : List (ℕ × Ty)) (w : Written) (a : Ty) → AreKnownProper types → denotes u types w a → IsProper a
  proper types w a k d = denoted_proper u.tokens.names types once k.each (written u w) a d

  params_proper : (types : List (ℕ × Ty)) (fs : List Field) (xs : List ℕ) (tys : List Ty) → AreKnownProper types → HasParams u types fs xs tys → All IsProper tys
  params_proper types _ _ _ k no_field = All-nil IsProper
  params_proper types _ _ _ k (a_field {f = f} {a = a} {fs = fs} {xs = xs} {tys = tys} d p) =
      All-append IsProper (map (λ n. a) f.names) tys (all_one a f.names (proper types f.ty a k d)) (params_proper types fs xs tys k p)

  results_proper : (types : List (ℕ × Ty)) (ws : List Written) (tys : List Ty) → AreKnownProper types → HasResults u types ws tys → All IsProper tys
  results_proper types _ _ k no_result = All-nil IsProper
  results_proper types _ _ k (a_result {w = w} {a = a} {ws = ws} {tys = tys} d p) = All-cons IsProper a tys (proper types w a k d) (results_proper types ws tys k p)

  pub functions_proper : (types : List (ℕ × Ty)) (items : List Item) (ds : List Declared) (d : Declared) → AreKnownProper types → Declares u types items ds → Contains ds d
      → IsProperFunction d
  functions_proper types _ _ d k no_item c = absurd (none_there d c)
  functions_proper types _ ds d k (a_type {d = t} {a = a} {items = items} e n p) c =
      functions_proper ((t.name, a) ∷ types) items ds d (known_more t.name a types (proper types t.ty a k e) k) p c
  functions_proper types _ _ d k (a_function {f = f} {s = s} {items = items} {ds = ds} h p) c =
      by (there_cases d (record { function = f; types = types; signature = s }) ds c) (functions_proper types items ds d k p)
    where
      by : ((record { function = f; types = types; signature = s }) ≡ d) ⊎ Contains ds d → (Contains ds d → IsProperFunction d) → IsProperFunction d
      by (inl q) rest = subst IsProperFunction q (record {
        types = k;
        params = params_proper types f.header.params s.parameters s.params k h.params;
        results = results_proper types f.header.results s.results k h.results;
      })
      by (inr r) rest = rest r

  none_known : AreKnownProper []
  none_known = record { each = λ x a e. cc }

  -- ---- a place of the unit

  module _ (ds : List Declared) (are : AreDeclared u ds) where
    pub declared_proper : (d : Declared) → Contains ds d → IsProperFunction d
    declared_proper d c = functions_proper [] u.items ds d none_known are.declares c

    results_of : (f : Signature) → Contains (signatures ds) f → All IsProper f.results
    results_of f c =
        let from = map_from (λ d. d.signature) f (given ds) c in
        subst (λ s. All IsProper s.results) from.2 (declared_proper from.0 (filter_there (λ d. is_given d.function) from.0 ds from.1)).results

    pub fair : (forms : List Form) (d : Declared) → Contains ds d → IsFair (known u forms ds d.types) (denotes u d.types) (misnames u d.types)
    fair forms d c = record {
      one = one_type u d.types;
      none = no_type u d.types;
      proper = λ w a e. proper d.types w a (declared_proper d c).types e;
      types = (declared_proper d c).types.each;
      functions = λ x n m f g p q. same_named (signatures ds) f g are.distinct (got_there f (signatures ds) n p.there) (got_there g (signatures ds) m q.there) (p.named ∙ sym q.named);
      results = λ x n f p. results_of f (got_there f (signatures ds) n p.there);
      own = λ x n f b p q. own x n f b p q;
      spelled = once;
    }
      where
        own : (x n : ℕ) (f : Signature) (b : BuiltIn) → IsFunction (known u forms ds d.types) x n f → IsBuiltIn (known u forms ds d.types) x b → ⊥
        own x n f b p q =
            All-contains (λ s. NoBuiltIn (known u [] ds []) s.name) (signatures ds) f are.own (got_there f (signatures ds) n p.there) b
            (record { spelling = q.spelling; spelled = subst (λ y. slice_get u.tokens.names y ≡ Some q.spelling) (sym p.named) q.spelled; named = q.named })
