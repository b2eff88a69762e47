-- Lists put in order by a number, those of one number in the order that they had.
use Rattle.std.proofs.Common.{◌≡◌, ℕ, zero, suc, ◌+◌, ◌<◌, ◌≤◌, Bool, true, false, cond, List, [], ◌∷◌, map, length, get_or, inl, inr, refl, sym, ap, subst, ◌∙◌, arith}
use Rattle.std.specs.Prelude.{◌==◌, filter, nat_lt, Contains, if◌then◌else◌}
use Rattle.std.specs.List.Sorted.{IsPermutation, IsNonDecreasingBy, IsStrictlyIncreasing}
use Rattle.std.proofs.lemmas.Bool.{eqb-true, ltb-true, ltb-false}
use Rattle.std.proofs.lemmas.Bool.Decides.{eqb_tells}
use Rattle.std.proofs.lemmas.List.Elements.{Contains-get_or}
use Rattle.std.proofs.lemmas.List.Sorted.{IsPermutation-refl, IsPermutation-sym, IsPermutation-trans, IsPermutation-cons, IsPermutation-middle}
use Rattle.if1_graph.specs.Formed.{IsOnce}
use Rattle.if1_read.specs.Arranged.{IsArranged}
use Rattle.if1_read.proofs.Same.{same_once}

-- ---- numbers

-- none is below the one before it, nor the first one below a number
abbrev pub Rise : ℕ → List ℕ → Type 0
Rise low [] = Unit {0}
Rise low (n ∷ ns) = (low ≤ n) × Rise n ns

rise_low : (low : ℕ) (ns : List ℕ) (j : ℕ) → Rise low ns → j < length ns → low ≤ get_or ns j 0
rise_low low [] j h lt = absurd (omega (arith, lt))
rise_low low (n ∷ ns) zero h lt = h.0
rise_low low (n ∷ ns) (suc j) h lt = omega (arith, h.0, rise_low n ns j h.1 (omega (arith, lt)))

below_by : (n m : ℕ) (ns : List ℕ) → n ≤ m → ¬ Contains ns n → Contains ns m → n < m
below_by n m ns le none there = elim (eqb_tells n m) [
  | inl t ↦ absurd (none (subst (λ (x : ℕ). Contains ns x) (sym t.1) there))
  | inr t ↦ omega (arith, le, t.1)
]

rise_below : (low : ℕ) (ns : List ℕ) (i j : ℕ) → Rise low ns → IsOnce ns → i < j → j < length ns → get_or ns i 0 < get_or ns j 0
rise_below low [] i j h once lt within = absurd (omega (arith, within))
rise_below low (n ∷ ns) i zero h once lt within = absurd (omega (arith, lt))
rise_below low (n ∷ ns) zero (suc j) h once lt within =
    let inside : j < length ns = omega (arith, within) in
    below_by n (get_or ns j 0) ns (rise_low n ns j h.1 inside) once.0 (Contains-get_or ns j 0 inside)
rise_below low (n ∷ ns) (suc i) (suc j) h once lt within = rise_below n ns i j h.1 once.1 (omega (arith, lt)) (omega (arith, within))

rise_strictly : (ns : List ℕ) → Rise 0 ns → IsOnce ns → IsStrictlyIncreasing ns
rise_strictly ns h once k within = rise_below 0 ns k (k + 1) h once (omega arith) within

-- ---- a list by a number of each

module _ {X : Type 0} (key : X → ℕ) where
  abbrev pub inserted : X → List X → List X
  inserted x [] = x ∷ []
  inserted x (y ∷ ys) = if nat_lt (key y) (key x) then y ∷ inserted x ys else x ∷ y ∷ ys

  abbrev pub sorted : List X → List X
  sorted [] = []
  sorted (x ∷ xs) = inserted x (sorted xs)

  -- ---- the same, in another order

  these_if : (b : Bool) (x y : X) (ys : List X) → IsPermutation (x ∷ ys) (inserted x ys) →
      IsPermutation (x ∷ y ∷ ys) (if b then y ∷ inserted x ys else x ∷ y ∷ ys)
  these_if true x y ys ih =
      IsPermutation-trans (x ∷ y ∷ ys) (y ∷ x ∷ ys) (y ∷ inserted x ys) (IsPermutation-sym (y ∷ x ∷ ys) (x ∷ y ∷ ys) (IsPermutation-middle (y ∷ []) x ys))
      (IsPermutation-cons y (x ∷ ys) (inserted x ys) ih)
  these_if false x y ys ih = IsPermutation-refl (x ∷ y ∷ ys)

  these_inserted : (x : X) (ys : List X) → IsPermutation (x ∷ ys) (inserted x ys)
  these_inserted x [] = IsPermutation-refl (x ∷ [])
  these_inserted x (y ∷ ys) = these_if (nat_lt (key y) (key x)) x y ys (these_inserted x ys)

  these_sorted : (xs : List X) → IsPermutation xs (sorted xs)
  these_sorted [] = IsPermutation-refl []
  these_sorted (x ∷ xs) = IsPermutation-trans (x ∷ xs) (x ∷ sorted xs) (sorted (x ∷ xs)) (IsPermutation-cons x xs (sorted xs) (these_sorted xs)) (these_inserted x (sorted xs))

  -- ---- those of one number stay

  abbrev of_number : ℕ → List X → List X
  of_number l xs = filter (λ x. key x == l) xs

  turned : (a b : Bool) (x y : X) (zs : List X) → (a ≡ true → b ≡ true → ⊥) →
      cond b (y ∷ cond a (x ∷ zs) zs) (cond a (x ∷ zs) zs) ≡ cond a (x ∷ cond b (y ∷ zs) zs) (cond b (y ∷ zs) zs)
  turned true true x y zs h = absurd (h refl refl)
  turned true false x y zs h = refl
  turned false true x y zs h = refl
  turned false false x y zs h = refl

  stays_if : (c : Bool) (x y : X) (ys : List X) (l : ℕ) → nat_lt (key y) (key x) ≡ c → of_number l (inserted x ys) ≡ of_number l (x ∷ ys) →
      of_number l (if c then y ∷ inserted x ys else x ∷ y ∷ ys) ≡ of_number l (x ∷ y ∷ ys)
  stays_if true x y ys l e ih =
      ap (λ (zs : List X). cond (key y == l) (y ∷ zs) zs) ih
      ∙ turned (key x == l) (key y == l) x y (of_number l ys) (λ p q. omega (arith, eqb-true (key x) l p, eqb-true (key y) l q, ltb-true (key y) (key x) e))
  stays_if false x y ys l e ih = refl

  stays_inserted : (x : X) (ys : List X) (l : ℕ) → of_number l (inserted x ys) ≡ of_number l (x ∷ ys)
  stays_inserted x [] l = refl
  stays_inserted x (y ∷ ys) l = stays_if (nat_lt (key y) (key x)) x y ys l refl (stays_inserted x ys l)

  pub stays : (xs : List X) (l : ℕ) → of_number l (sorted xs) ≡ of_number l xs
  stays [] l = refl
  stays (x ∷ xs) l = stays_inserted x (sorted xs) l ∙ ap (λ (zs : List X). cond (key x == l) (x ∷ zs) zs) (stays xs l)

  pub arranged : (xs : List X) → IsArranged key xs (sorted xs)
  arranged xs = record { these = these_sorted xs; same = stays xs }

  -- ---- in order

  rise_if : (b : Bool) (low : ℕ) (x y : X) (ys : List X) → nat_lt (key y) (key x) ≡ b → low ≤ key x → Rise low (map key (y ∷ ys)) →
      (key y ≤ key x → Rise (key y) (map key (inserted x ys))) → Rise low (map key (if b then y ∷ inserted x ys else x ∷ y ∷ ys))
  rise_if true low x y ys e le up ih = (up.0, ih (omega (arith, ltb-true (key y) (key x) e)))
  rise_if false low x y ys e le up ih = (le, (ltb-false (key y) (key x) e, up.1))

  rise_inserted : (low : ℕ) (x : X) (ys : List X) → low ≤ key x → Rise low (map key ys) → Rise low (map key (inserted x ys))
  rise_inserted low x [] le up = (le, tt)
  rise_inserted low x (y ∷ ys) le up = rise_if (nat_lt (key y) (key x)) low x y ys refl le up (λ h. rise_inserted (key y) x ys h up.1)

  rise_sorted : (xs : List X) → Rise 0 (map key (sorted xs))
  rise_sorted [] = tt
  rise_sorted (x ∷ xs) = rise_inserted 0 x (sorted xs) (omega arith) (rise_sorted xs)

  low_at : (low : ℕ) (xs : List X) (j : ℕ) (d : X) → Rise low (map key xs) → j < length xs → low ≤ key (get_or xs j d)
  low_at low [] j d h lt = absurd (omega (arith, lt))
  low_at low (x ∷ xs) zero d h lt = h.0
  low_at low (x ∷ xs) (suc j) d h lt = omega (arith, h.0, low_at (key x) xs j d h.1 (omega (arith, lt)))

  rise_at : (low : ℕ) (xs : List X) → Rise low (map key xs) → IsNonDecreasingBy key xs
  rise_at low [] h i j d le lt = absurd (omega (arith, lt))
  rise_at low (x ∷ xs) h zero zero d le lt = omega arith
  rise_at low (x ∷ xs) h zero (suc j) d le lt = low_at (key x) xs j d h.1 (omega (arith, lt))
  rise_at low (x ∷ xs) h (suc i) zero d le lt = absurd (omega (arith, le))
  rise_at low (x ∷ xs) h (suc i) (suc j) d le lt = rise_at (key x) xs h.1 i j d (omega (arith, le)) (omega (arith, lt))

  pub in_order : (xs : List X) → IsNonDecreasingBy key (sorted xs)
  in_order xs = rise_at 0 (sorted xs) (rise_sorted xs)

  -- where each number stands once
  pub strictly : (xs : List X) → IsOnce (map key xs) → IsStrictlyIncreasing (map key (sorted xs))
  strictly xs once = rise_strictly (map key (sorted xs)) (rise_sorted xs) (same_once key xs (sorted xs) (λ l. sym (stays xs l)) once)
