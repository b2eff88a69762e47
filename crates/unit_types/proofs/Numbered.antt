-- Functions by name.
use Rattle.std.proofs.Common.{◌≡◌, ℕ, zero, suc, ◌+◌, Bool, true, false, List, [], ◌∷◌, ◌++◌, length, map, slice_get, Contains, Option, Some, nat_eq, if◌then◌else◌, refl, sym, ap, subst, ◌∙◌, arith, append_assoc, Result, Ok, Err, OnOk, true≢false}
use Rattle.std.proofs.lemmas.List.{length-append, length-map, map-append}
use Rattle.std.proofs.lemmas.Bool.Decides.{nat_tests}
use Rattle.name_scope.specs.Newest.{newest}
use Rattle.typed_tree.specs.Scopes.{AreDistinct}
use Rattle.unit_types.specs.Headings.{numbering}
use Rattle.unit_types.proofs.Names.{same_number}
use Rattle.unit_types.proofs.Places.{map_has, map_at}

numbering_onto : (n : ℕ) (before : List (ℕ × ℕ)) (xs : List ℕ) (x : ℕ) → numbering n before (xs ++ x ∷ []) ≡ (x, n + length xs) ∷ numbering n before xs
numbering_onto n before [] x = let e : n ≡ n + 0 = omega arith in ap (λ k. (x, k) ∷ before) e
numbering_onto n before (y ∷ ys) x =
    let e : n + 1 + length ys ≡ n + length (y ∷ ys) = omega arith in
    numbering_onto (n + 1) ((y, n) ∷ before) ys x ∙ ap (λ k. (x, k) ∷ numbering (n + 1) ((y, n) ∷ before) ys) e

-- one function more
pub numbering_more : {A : Type 0} (f : A → ℕ) (xs : List A) (x : A) → numbering 0 [] (map f (xs ++ x ∷ [])) ≡ (f x, length xs) ∷ numbering 0 [] (map f xs)
numbering_more f xs x =
    ap (numbering 0 []) (map-append f xs (x ∷ []))
    ∙ numbering_onto 0 [] (map f xs) (f x)
    ∙ (let e : 0 + length (map f xs) ≡ length xs = omega (arith, length-map xs f) in ap (λ k. (f x, k) ∷ numbering 0 [] (map f xs)) e)

seam : (xs ys : List ℕ) (y : ℕ) → slice_get (xs ++ y ∷ ys) (length xs) ≡ Some y
seam [] ys y = refl
seam (x ∷ xs) ys y = seam xs ys y

here_or_before : (b : Bool) (x y n k : ℕ) (o : Option ℕ) (got : Option ℕ) → (if b then Some n else o) ≡ Some k → (b ≡ true → x ≡ y) → (x ≡ y → n ≡ k → got ≡ Some x) → (o ≡ Some k → got ≡ Some x) → got ≡ Some x
here_or_before true x y n k o got h same here rest = let e : n ≡ k = cc in here (same refl) e
here_or_before false x y n k o got h same here rest = rest h

finds : (pre names : List ℕ) (before : List (ℕ × ℕ)) → ((x k : ℕ) → newest x before ≡ Some k → slice_get (pre ++ names) k ≡ Some x)
    → (n : ℕ) → n ≡ length pre → (x k : ℕ) → newest x (numbering n before names) ≡ Some k → slice_get (pre ++ names) k ≡ Some x
finds pre [] before h n e x k q = h x k q
finds pre (y ∷ ys) before h n e x k q =
    let whole : (pre ++ y ∷ []) ++ ys ≡ pre ++ (y ∷ ys) = append_assoc pre (y ∷ []) ys in
    let next : (x k : ℕ) → newest x ((y, n) ∷ before) ≡ Some k → slice_get ((pre ++ y ∷ []) ++ ys) k ≡ Some x =
    λ x k q. ap (λ l. slice_get l k) whole ∙ here_or_before (nat_eq x y) x y n k (newest x before) (slice_get (pre ++ (y ∷ ys)) k) q (λ t. grind (arith, nat_tests))
    (λ s t. ap (slice_get (pre ++ (y ∷ ys))) (sym t ∙ e) ∙ seam pre ys y ∙ ap Some (sym s)) (h x k) in
    let count : n + 1 ≡ length (pre ++ y ∷ []) = omega (arith, e, length-append pre (y ∷ [])) in
    ap (λ l. slice_get l k) (sym whole) ∙ finds (pre ++ y ∷ []) ys ((y, n) ∷ before) next (n + 1) count x k q

-- the number of a name leads to it
pub numbering_finds : (names : List ℕ) (x k : ℕ) → newest x (numbering 0 [] names) ≡ Some k → slice_get names k ≡ Some x
numbering_finds names x k h = finds [] names [] (λ x k h. cc) 0 refl x k h

-- ---- each name once

-- the number of a name that is none of these
skips : (x n : ℕ) (before : List (ℕ × ℕ)) (names : List ℕ) → (Contains names x → ⊥) → newest x (numbering n before names) ≡ newest x before
skips x n before [] h = refl
skips x n before (y ∷ ys) h = skips x (n + 1) ((y, n) ∷ before) ys (λ c. h (suc c.0, omega (arith, c.1), c.2)) ∙ by (nat_eq x y) refl
  where
    by : (b : Bool) → nat_eq x y ≡ b → (if b then Some n else newest x before) ≡ newest x before
    by true e = absurd (h (0, omega arith, sym (same_number x y e)))
    by false e = refl

from_place : (x n : ℕ) (before : List (ℕ × ℕ)) (names : List ℕ) → AreDistinct names → (k : ℕ) → slice_get names k ≡ Some x → newest x (numbering n before names) ≡ Some (n + k)
from_place x n before [] d k e = absurd cc
from_place x n before (y ∷ ys) d zero e =
    let s : y ≡ x = cc in
    skips x (n + 1) ((y, n) ∷ before) ys (λ c. d.0 (subst (Contains ys) (sym s) c)) ∙ by (nat_eq x y) refl s
  where
    by : (b : Bool) → nat_eq x y ≡ b → y ≡ x → (if b then Some n else newest x before) ≡ Some (n + 0)
    by true e s = let z : n ≡ n + 0 = omega arith in ap Some z
    by false e s = let t : nat_eq x y ≡ true = grind (arith, nat_tests) in absurd (true≢false (sym t ∙ e))
from_place x n before (y ∷ ys) d (suc k) e =
    let z : n + 1 + k ≡ n + suc k = omega arith in
    from_place x (n + 1) ((y, n) ∷ before) ys d.1 k e ∙ ap Some z

-- where each stands once, the place of a name is its number
pub numbering_gives : (names : List ℕ) → AreDistinct names → (x k : ℕ) → slice_get names k ≡ Some x → newest x (numbering 0 [] names) ≡ Some k
numbering_gives names d x k e = let z : 0 + k ≡ k = omega arith in from_place x 0 [] names d k e ∙ ap Some z

-- the number of a name is that of a function of the name
pub named_by : {A : Type 0} (f : A → ℕ) (xs : List A) (numbers : List (ℕ × ℕ)) → numbers ≡ numbering 0 [] (map f xs) → (x n : ℕ) → newest x numbers ≡ Some n → (a : A) × (slice_get xs n ≡ Some a) × (f a ≡ x)
named_by f xs numbers e x n h = map_has f xs n x (numbering_finds (map f xs) x n (ap (newest x) (sym e) ∙ h))

-- and each function has the number of its name
pub number_of : {A : Type 0} (f : A → ℕ) (xs : List A) (numbers : List (ℕ × ℕ)) → numbers ≡ numbering 0 [] (map f xs) → AreDistinct (map f xs) → (n : ℕ) (a : A) → slice_get xs n ≡ Some a → newest (f a) numbers ≡ Some n
number_of f xs numbers e d n a h = ap (newest (f a)) e ∙ numbering_gives (map f xs) d (f a) n (map_at f xs n a h)

-- ---- one function more

-- the numbers of functions stay theirs where one is added
pub numbered_more : {A R F : Type 0} (f : A → ℕ) (fs gs : List A) (x : A) (ns ms : List (ℕ × ℕ)) (r : Result R F) → OnOk r (gs ≡ fs ++ x ∷ []) → OnOk r (ms ≡ (f x, length fs) ∷ ns)
    → ns ≡ numbering 0 [] (map f fs) → OnOk r (ms ≡ numbering 0 [] (map f gs))
numbered_more f fs gs x ns ms (Ok v) e d h = d ∙ ap (λ l. (f x, length fs) ∷ l) h ∙ sym (numbering_more f fs x) ∙ ap (λ l. numbering 0 [] (map f l)) (sym e)
numbered_more f fs gs x ns ms (Err v) e d h = tt
