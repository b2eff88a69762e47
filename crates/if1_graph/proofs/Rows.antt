-- A row of digits spells no less than its front does.
use Rattle.std.proofs.Common.{◌≡◌, ℕ, suc, ◌+◌, ◌-◌, ◌*◌, ◌≤◌, ◌<◌, List, [], ◌∷◌, drop, drop-cons, length, get_or, Some, None, sym, ap, ◌∙◌, arith, if◌then◌else◌, nat_le, false}
use Rattle.std.proofs.lemmas.Bool.{lt-leb}
use Rattle.std.specs.List.{fold}
use Rattle.if1_graph.specs.Numbers.{in_32_bits}

abbrev pub with_digit : ℕ → ℕ → ℕ
with_digit n d = 10 * n + (d - 48)

grows : (n : ℕ) (ds : List ℕ) → n ≤ fold with_digit n ds
grows n [] = omega arith
grows n (d ∷ ds) = let h = grows (with_digit n d) ds in omega (arith, h)

too_large : (n : ℕ) → 4294967295 < n → None ≡ in_32_bits n
too_large n h = let t : nat_le n 4294967295 ≡ false = lt-leb n 4294967295 h in ap (λ b. if b then Some n else None) (sym t)

-- a number whose front is too large is too large
pub front_too_large : (whole v i : ℕ) (ds : List ℕ) → whole ≡ fold with_digit v (drop i ds) → i < length ds
    → 4294967295 < with_digit v (get_or ds i 0) → None ≡ in_32_bits whole
front_too_large whole v i ds e inside large =
    let h = grows (with_digit v (get_or ds i 0)) (drop (suc i) ds) in
    let f : whole ≡ fold with_digit (with_digit v (get_or ds i 0)) (drop (suc i) ds) = e ∙ ap (fold with_digit v) (drop-cons ds i 0 inside) in
    too_large whole (omega (arith, h, f, large))
