-- Names stand once, as the reader tests it.
use Rattle.std.proofs.Common.{◌≡◌, ℕ, zero, suc, Bool, true, false, List, [], ◌∷◌, ◌++◌, Contains, refl, sym, ap, subst, ◌∙◌, arith, if◌then◌else◌, nat_eq, eqb-true, eq-eqb}
use Rattle.std.proofs.lemmas.List.Elements.{Contains-append_left, Contains-append_right}
use Rattle.sisal_tree.specs.declared.unit.Named.{Named}
use Rattle.typed_tree.specs.Scopes.{AreDistinct}
use Rattle.typed_tree.specs.Typing.{names_of}
use Rattle.typed_tree.specs.Breaks.{IsTwice, twice, later}
use Rattle.typing_unique.proofs.UReader.{stands, once}

pub contains_first : (x : ℕ) (ys : List ℕ) → Contains (x ∷ ys) x
contains_first x ys = Contains-append_left (x ∷ []) ys x (0, omega arith, refl)

pub contains_later : (x y : ℕ) (ys : List ℕ) → Contains ys x → Contains (y ∷ ys) x
contains_later x y ys h = Contains-append_right (y ∷ []) ys x h

contained_if : (x y : ℕ) (ys : List ℕ) (b : Bool) → nat_eq x y ≡ b → (stands x ys ≡ true → Contains ys x) → (if b then true else stands x ys) ≡ true → Contains (y ∷ ys) x
contained_if x y ys true same rest e = subst (λ z. Contains (z ∷ ys) x) (eqb-true x y same) (contains_first x ys)
contained_if x y ys false other rest e = contains_later x y ys (rest e)

stands_contained : (x : ℕ) (ys : List ℕ) → stands x ys ≡ true → Contains ys x
stands_contained x [] e = cc
stands_contained x (y ∷ ys) e = contained_if x y ys (nat_eq x y) refl (stands_contained x ys) e

once_if : (x : ℕ) (xs : List ℕ) (b : Bool) → stands x xs ≡ b → (Contains xs x → ⊥) → once xs ≡ true → (if b then false else once xs) ≡ true
once_if x xs true e none rest = absurd (none (stands_contained x xs e))
once_if x xs false e none rest = rest

pub distinct_once : (xs : List ℕ) → AreDistinct xs → once xs ≡ true
distinct_once [] h = refl
distinct_once (x ∷ xs) h = once_if x xs (stands x xs) refl h.0 (distinct_once xs h.1)

-- ---- names that stand twice

true_if : (b c : Bool) → c ≡ true → (if b then true else c) ≡ true
true_if true c e = refl
true_if false c e = e

false_if : (b c : Bool) → c ≡ false → (if b then false else c) ≡ false
false_if true c e = refl
false_if false c e = e

named_stands : (ns : List Named) (more : List Named) (m : Named) → Contains ns m → stands m.name (names_of (ns ++ more)) ≡ true
named_stands [] more m (k, l, e) = absurd (omega arith)
named_stands (n ∷ ns) more m (zero, l, e) =
    ap (λ b. if b then true else stands m.name (names_of (ns ++ more))) (eq-eqb m.name n.name (ap (λ x. x.name) (sym e)))
named_stands (n ∷ ns) more m (suc k, l, e) =
    true_if (nat_eq m.name n.name) (stands m.name (names_of (ns ++ more))) (named_stands ns more m (k, omega arith, e))

-- with more names behind
pub twice_once : (ns : List Named) (more : List Named) (line : ℕ) → IsTwice ns line → once (names_of (ns ++ more)) ≡ false
twice_once _ more _ (twice {n = n} {m = m} {ns = ns} h e) =
    ap (λ b. if b then false else once (names_of (ns ++ more))) (ap (λ x. stands x (names_of (ns ++ more))) e ∙ named_stands ns more m h)
twice_once _ more line (later {n = n} {ns = ns} t) =
    false_if (stands n.name (names_of (ns ++ more))) (once (names_of (ns ++ more))) (twice_once ns more line t)
