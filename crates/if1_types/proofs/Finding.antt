-- The number beside a label, by its place.
use Rattle.std.proofs.Common.{◌≡◌, ℕ, zero, suc, ◌<◌, ◌==◌, false, List, [], ◌∷◌, length, get_or, slice_index, Some, None, option_map, refl, ap, ◌∙◌, arith, if◌then◌else◌}
use Rattle.std.specs.List.Sorted.{IsStrictlyIncreasing}
use Rattle.if1_types.specs.Tables.{number_at}
use Rattle.if1_types.specs.Finds.{place_of}

rising_rest : (n : ℕ) (ns : List ℕ) → IsStrictlyIncreasing (n ∷ ns) → IsStrictlyIncreasing ns
rising_rest n ns up k h = grind (arith, up (suc k))

above : (n : ℕ) (ns : List ℕ) (k : ℕ) → IsStrictlyIncreasing (n ∷ ns) → k < length ns → n < slice_index ns k
above n ns zero up h = grind (arith, up 0)
above n ns (suc k) up h = grind (arith, above n ns k up, up (suc k))

pub number_found : (xs ns : List ℕ) (k l : ℕ) → IsStrictlyIncreasing xs → k < length xs → slice_index xs k ≡ l → number_at xs ns l ≡ get_or ns k 0
number_found [] ns k l up h is = absurd (omega (arith, h))
number_found (x ∷ xs) [] k l up h is = refl
number_found (x ∷ xs) (n ∷ ns) zero l up h is = grind (arith, is)
number_found (x ∷ xs) (n ∷ ns) (suc k) l up h is = grind (arith, above x xs k up, number_found xs ns k l (rising_rest x xs up))

pub number_none : (xs ns : List ℕ) (l : ℕ) → ((k : ℕ) → k < length xs → slice_index xs k ≡ l → ⊥) → number_at xs ns l ≡ 0
number_none [] ns l none = refl
number_none (x ∷ xs) [] l none = refl
number_none (x ∷ xs) (n ∷ ns) l none = grind (arith, none 0, number_none xs ns l (λ k h is. none (suc k) (omega (arith, h)) is))

-- ---- the place of a label

pub place_found : (xs : List ℕ) (k l : ℕ) → IsStrictlyIncreasing xs → k < length xs → slice_index xs k ≡ l → place_of xs l ≡ Some k
place_found [] k l up h is = absurd (omega (arith, h))
place_found (x ∷ xs) zero l up h is = grind (arith, is)
place_found (x ∷ xs) (suc k) l up h is =
    let other : (x == l) ≡ false = grind (arith, above x xs k up) in
    ap (λ b. if b then Some 0 else option_map suc (place_of xs l)) other ∙ ap (option_map suc) (place_found xs k l (rising_rest x xs up) (omega (arith, h)) is)

pub place_none : (xs : List ℕ) (l : ℕ) → ((k : ℕ) → k < length xs → slice_index xs k ≡ l → ⊥) → place_of xs l ≡ None
place_none [] l none = refl
place_none (x ∷ xs) l none =
    let other : (x == l) ≡ false = grind (arith, none 0) in
    ap (λ b. if b then Some 0 else option_map suc (place_of xs l)) other ∙ ap (option_map suc) (place_none xs l (λ k h is. none (suc k) (omega (arith, h)) is))

-- ---- rising labels that are written out
pub rising_last : (x : ℕ) → IsStrictlyIncreasing (x ∷ [])
rising_last x k h = absurd (omega (arith, h))

pub rising_first : (x y : ℕ) (zs : List ℕ) → x < y → IsStrictlyIncreasing (y ∷ zs) → IsStrictlyIncreasing (x ∷ y ∷ zs)
rising_first x y zs h up zero l = grind (arith, h)
rising_first x y zs h up (suc k) l = grind (arith, up k)
