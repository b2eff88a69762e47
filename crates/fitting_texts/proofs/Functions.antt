-- The functions of a typed unit have names, and no two the same.
use Rattle.std.proofs.Common.{◌≡◌, ◌<◌, ◌≤◌, ℕ, zero, suc, List, [], ◌∷◌, map, All, Contains, Some, slice_get, get_or, length, refl, sym, ap, subst, ◌∙◌}
use Rattle.std.proofs.lemmas.Option.{slice_get_within, slice_get-get_or, get_or_from_slice_get}
use Rattle.std.proofs.lemmas.List.Elements.{All-nil, All-cons, All-head, All-tail}
use Rattle.type_table.specs.declared.form.Form.{Form}
use Rattle.sisal_tree.specs.declared.unit.Unit as tree
use Rattle.typed_tree.specs.declared.program.Function.{Function}
use Rattle.typed_tree.specs.declared.program.Program.{Program}
use Rattle.typed_tree.specs.Scopes.{AreDistinct}
use Rattle.typed_tree.specs.Units as units
use Rattle.typed_tree.specs.Units.{Declared, given, signatures, AreFunctionsOf, IsTyped}
use Rattle.bound_trees.specs.Bound.{HasHeader}
use Rattle.fitting_units.specs.Leaves.{AreNamesOnce}
use Rattle.lowered_units.specs.Fitting.{HasName}

map_at : {A B : Type 0} (f : A → B) (xs : List A) (i : ℕ) (x : A) → slice_get xs i ≡ Some x → slice_get (map f xs) i ≡ Some (f x)
map_at f [] i x e = cc
map_at f (y ∷ ys) zero x e = let s : y ≡ x = cc in ap (λ z. Some (f z)) s
map_at f (y ∷ ys) (suc i) x e = map_at f ys i x e

-- no two places have the same number
same_place : (xs : List ℕ) → AreDistinct xs → (i j n : ℕ) → slice_get xs i ≡ Some n → slice_get xs j ≡ Some n → i ≡ j
same_place [] d i j n e f = cc
same_place (x ∷ xs) d zero zero n e f = refl
same_place (x ∷ xs) d zero (suc j) n e f = let s : x ≡ n = cc in absurd (d.0 (subst (Contains xs) (sym s) (j, slice_get_within xs j n f, get_or_from_slice_get xs j n n f)))
same_place (x ∷ xs) d (suc i) zero n e f = let s : x ≡ n = cc in absurd (d.0 (subst (Contains xs) (sym s) (i, slice_get_within xs i n e, get_or_from_slice_get xs i n n e)))
same_place (x ∷ xs) d (suc i) (suc j) n e f = ap suc (same_place xs d.1 i j n e f)

module _ (u : tree.Unit) (forms : List Form) (ds : List Declared) where
  names_same : (es : List Declared) (fs : List Function) → AreFunctionsOf u forms ds es fs → map (λ s. s.name) (map (λ d. d.signature) es) ≡ map (λ f. f.name) fs
  names_same _ _ units.no_function = refl
  names_same _ _ (units.a_function {d = d} {f = f} {es = es} {fs = fs} p ps) = ap (λ n. n ∷ map (λ s. s.name) (map (λ d. d.signature) es)) (sym p.name) ∙ ap (λ ns. f.name ∷ ns) (names_same es fs ps)

pub functions_once : (u : tree.Unit) (p : Program) → IsTyped u p → AreNamesOnce p.names → (i j : ℕ) (name : List ℕ) → HasName p i name → HasName p j name → i ≡ j
functions_once u p t once i j name a b =
    let distinct = subst AreDistinct (names_same u p.types t.declared (given t.declared) p.functions t.functions) t.declares.distinct in
    let same = once a.function.name b.function.name name a.spelled b.spelled in
    same_place (map (λ f. f.name) p.functions) distinct i j a.function.name (map_at (λ f. f.name) p.functions i a.function a.there)
    (map_at (λ f. f.name) p.functions j b.function b.there ∙ ap Some (sym same))

named_at : (names : List (List ℕ)) (n : ℕ) → n < length names → (name : List ℕ) × (slice_get names n ≡ Some name)
named_at names n h = (get_or names n [], slice_get-get_or names n [] h)

pub functions_named : (p : Program) (fs : List Function) → All (HasHeader p) fs → All (λ (f : Function). (name : List ℕ) × (slice_get p.names f.name ≡ Some name)) fs
functions_named p [] h = All-nil (λ (f : Function). (name : List ℕ) × (slice_get p.names f.name ≡ Some name))
functions_named p (f ∷ fs) h =
    All-cons (λ (f : Function). (name : List ℕ) × (slice_get p.names f.name ≡ Some name)) f fs (named_at p.names f.name (All-head (HasHeader p) f fs h).0) (functions_named p fs (All-tail (HasHeader p) f fs h))

pub functions_give : (p : Program) (fs : List Function) → All (HasHeader p) fs → All (λ (f : Function). 1 ≤ length f.results) fs
functions_give p [] h = All-nil (λ (f : Function). 1 ≤ length f.results)
functions_give p (f ∷ fs) h = All-cons (λ (f : Function). 1 ≤ length f.results) f fs (All-head (HasHeader p) f fs h).1 (functions_give p fs (All-tail (HasHeader p) f fs h))
