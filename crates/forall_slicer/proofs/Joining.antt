-- The slices of a range join.
use Rattle.std.proofs.Common.{◌≡◌, ℕ, zero, suc, ◌+◌, ◌*◌, ◌/◌, ◌<◌, ◌≤◌, [], map, refl, arith, rules, subst, ap, ◌∙◌}
use Rattle.std.specs.List.{range_with_len}
use Rattle.std.proofs.lemmas.Nat.{le-div, div-add-mod', div-mul-add}
use Rattle.forall_slicer.specs.Slices.{cut_point, nth_slice, Joins}

-- a slice of at least one iteration each
grows : (n count k : ℕ) → 0 < count → count ≤ n → cut_point n count k < cut_point n count (k + 1)
grows n count k some fits =
    let whole : (k * n / count + 1) * count ≤ (k + 1) * n = omega (arith, div-add-mod' (k * n) count) in
    omega (arith, le-div (k * n / count + 1) ((k + 1) * n) count some whole)

-- slices a up to a + m
joined : (n count a m : ℕ) → 0 < count → count ≤ n → Joins (cut_point n count a) (cut_point n count (a + m)) (map (nth_slice n count) (range_with_len a m))
joined n count a zero some fits = search rules
joined n count a (suc m) some fits =
    let later : Joins (cut_point n count (a + 1)) (cut_point n count (a + 1 + m)) (map (nth_slice n count) (range_with_len (a + 1) m)) = joined n count (a + 1) m some fits in
    let at : a + 1 + m ≡ a + suc m = omega arith in
    (refl, grows n count a some fits, subst (λ e. Joins (cut_point n count (a + 1)) (cut_point n count e) (map (nth_slice n count) (range_with_len (a + 1) m))) at later)

-- a quotient without a rest
quotient : (k n count q : ℕ) → 0 < count → k * n ≡ q * count + 0 → k * n / count ≡ q
quotient k n count q some even = ap (λ e. e / count) even ∙ div-mul-add q count 0 some

-- the slices of a whole range
pub all_join : (n count : ℕ) → count ≤ n → (0 < n → 0 < count) → Joins 0 n (map (nth_slice n count) (range_with_len 0 count))
all_join n zero fits some = elim n as (λ n. (0 < n → 0 < zero) → Joins 0 n []) [ zero ↦ λ _. refl | suc n ↦ λ h. absurd (omega (arith, h (omega arith))) ] some
all_join n (suc count) fits some =
    let first : cut_point n (suc count) 0 ≡ 0 = quotient 0 n (suc count) 0 (omega arith) (omega arith) in
    let last : cut_point n (suc count) (0 + suc count) ≡ n = quotient (0 + suc count) n (suc count) n (omega arith) (omega arith) in
    subst (λ e. Joins e n (map (nth_slice n (suc count)) (range_with_len 0 (suc count)))) first
    (subst (λ e. Joins (cut_point n (suc count) 0) e (map (nth_slice n (suc count)) (range_with_len 0 (suc count)))) last
    (joined n (suc count) 0 (suc count) (omega arith) fits))
