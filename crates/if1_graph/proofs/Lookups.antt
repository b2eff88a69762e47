-- An item is found by its key at the place before which all keys are lower, and from which on none is.
use Rattle.std.proofs.Common.{◌≡◌, ℕ, zero, suc, ◌+◌, ◌-◌, ◌/◌, ◌<◌, ◌≤◌, List, [], ◌∷◌, map, find, length, slice_index, slice_index_or, slice_get, option_and_then, Some, None, if◌then◌else◌, ◌==◌, arith, refl, ap}
use Rattle.std.specs.List.Sorted.{IsStrictlyIncreasing}
use Rattle.if1_graph.specs.Tables.{if_keyed}

-- the numbers before a place are lower
abbrev pub IsBelow : List ℕ → ℕ → ℕ → Type 0
IsBelow ns k n = (j : ℕ) → j < k → slice_index ns j < n

-- the numbers from a place on are not
abbrev pub IsFrom : List ℕ → ℕ → ℕ → Type 0
IsFrom ns k n = (j : ℕ) → k ≤ j → j < length ns → n ≤ slice_index ns j

pub rising : (ns : List ℕ) (i d : ℕ) → IsStrictlyIncreasing ns → i + suc d < length ns → slice_index ns i < slice_index ns (i + suc d)
rising ns i zero up h = grind (arith, up i)
rising ns i (suc d) up h = grind (arith, rising ns i d up, up (i + suc d))

rising_rest : (n : ℕ) (ns : List ℕ) → IsStrictlyIncreasing (n ∷ ns) → IsStrictlyIncreasing ns
rising_rest n ns up k h = grind (arith, up (suc k))

pub below_step : (ns : List ℕ) (k n : ℕ) → IsStrictlyIncreasing ns → k < length ns → slice_index ns k < n → IsBelow ns (k + 1) n
below_step ns k n up h low j i = grind (arith, rising ns j (k - suc j) up)

pub from_step : (ns : List ℕ) (k n : ℕ) → IsStrictlyIncreasing ns → n ≤ slice_index ns k → IsFrom ns k n
from_step ns k n up high j i h = grind (arith, rising ns k (j - suc k) up)

abbrev middle : ℕ → ℕ → ℕ
middle low high = low + (high - low) / 2

module _ {A : Type 0} (key : A → ℕ) where
  none_above : (xs : List A) (l : ℕ) → ((j : ℕ) → j < length (map key xs) → l < slice_index (map key xs) j) → find (λ x. key x == l) xs ≡ None
  none_above [] l above = refl
  none_above (x ∷ xs) l above = grind (arith, above 0, none_above xs l (λ j h. grind (arith, above (suc j))))

  pub found_at : (xs : List A) (k l : ℕ) → IsStrictlyIncreasing (map key xs) → IsBelow (map key xs) k l → IsFrom (map key xs) k l →
      k ≤ length xs → find (λ x. key x == l) xs ≡ option_and_then (if_keyed key l) (slice_get xs k)
  found_at [] k l up below above h = refl
  found_at (x ∷ xs) zero l up below above h =
      ap (λ o. if key x == l then Some x else o)
      (none_above xs l (λ j h. grind (arith, above 0, rising (map key (x ∷ xs)) 0 j up)))
  found_at (x ∷ xs) (suc k) l up below above h =
      grind (
        arith,
        below 0,
        found_at xs k l (rising_rest (key x) (map key xs) up)
            (λ j h. grind (arith, below (suc j))) (λ j h i. grind (arith, above (suc j))),
      )

  key_at : (xs : List A) (k : ℕ) (d : A) → k < length xs → slice_index (map key xs) k ≡ key (slice_index_or xs k d)
  key_at [] k d h = grind arith
  key_at (x ∷ xs) zero d h = refl
  key_at (x ∷ xs) (suc k) d h = grind (arith, key_at xs k d)

  length-keys : (xs : List A) → length (map key xs) ≡ length xs
  length-keys [] = refl
  length-keys (x ∷ xs) = ap suc (length-keys xs)

  -- the two ways in which a search goes on
  pub more : (xs : List A) (low high l : ℕ) (d : A) → IsStrictlyIncreasing (map key xs) → low < high → high ≤ length xs →
      key (slice_index_or xs (middle low high) d) < l → IsBelow (map key xs) (middle low high + 1) l
  more xs low high l d up lh h small =
      below_step (map key xs) (middle low high) l up (omega (arith, length-keys xs, lh, h)) (grind (arith, key_at xs (middle low high) d, lh, h, small))

  pub less : (xs : List A) (low high l : ℕ) (d : A) → IsStrictlyIncreasing (map key xs) → low < high → high ≤ length xs →
      l ≤ key (slice_index_or xs (middle low high) d) → IsFrom (map key xs) (middle low high) l
  less xs low high l d up lh h large =
      from_step (map key xs) (middle low high) l up (grind (arith, key_at xs (middle low high) d, lh, h, large))
