-- A number never falls as its digits are read.
use Rattle.std.proofs.Common.{◌≡◌, ℕ, ◌+◌, ◌-◌, ◌*◌, ◌^◌, ◌<◌, ◌≤◌, Bool, true, false, cond, ltb, List, [], ◌∷◌, Option, Some, None, refl, arith}
use Rattle.std.proofs.lemmas.Bool.{le-ltb, ltb-false}
use Rattle.value_text.specs.Tokens.{is_digit, number_from, in_64_bits, with_digit}

grows_if : (b : Bool) (n m : ℕ) (c : ℕ) (t : List ℕ) → n ≤ m → m ≤ (number_from m t).0 → n ≤ (cond b (number_from m t) (n, c ∷ t)).0
grows_if true n m c t h g = omega arith
grows_if false n m c t h g = omega arith

pub number_from-grows : (n : ℕ) (t : List ℕ) → n ≤ (number_from n t).0
number_from-grows n [] = omega arith
number_from-grows n (c ∷ t) = grows_if (is_digit c) n (n * 10 + (c - 48)) c t (omega arith) (number_from-grows (n * 10 + (c - 48)) t)

pub number_past : (n : ℕ) (t : List ℕ) → 2 ^ 64 ≤ n → in_64_bits (number_from n t) ≡ None
number_past n t h =
    let e : ltb (number_from n t).0 (2 ^ 64) ≡ false = le-ltb _ _ (omega (arith, number_from-grows n t)) in
    rw e refl

past_if : (b : Bool) (m : ℕ) → ltb m (2 ^ 64) ≡ b → cond b (Some m) None ≡ None → 2 ^ 64 ≤ m
past_if true m e h = absurd cc
past_if false m e h = ltb-false _ _ e

-- where the next digit makes a number too large, the number is too large
pub digits_past : (n c : ℕ) (t : List ℕ) → is_digit c ≡ true → with_digit n c ≡ None → in_64_bits (number_from n (c ∷ t)) ≡ None
digits_past n c t d h =
    let m : ℕ = n * 10 + (c - 48) in
    let large : 2 ^ 64 ≤ m = past_if (ltb m (2 ^ 64)) m refl h in
    rw d (number_past m t large)
