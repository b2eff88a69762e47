-- What is known of a product is what is known of its factors, and decides whether it fits.
use Rattle.std.specs.Prelude.{◌≡◌, ℕ, zero, suc, ◌+◌, ◌*◌, ◌^◌, ◌<◌, ◌≤◌, nat_le, ℤ, pos, negsuc, ◌*ℤ◌, unsigned_abs, Bool, true, false, if◌then◌else◌, List, [], ◌∷◌, ◌++◌, Option, Some, None, refl}
use Rattle.std.proofs.Common.{sym, ◌∙◌, ap, subst, arith}
use Rattle.std.proofs.Math.Nat.{mul-suc, mul_comm}
use Rattle.std.proofs.Math.IntN.{*ℤ_comm, zero-*ℤ}
use Rattle.std.proofs.lemmas.Bool.{leb-false, lt-leb}
use Rattle.std.proofs.lemmas.Int.{unsigned_abs-mul}
use Rattle.flow_value.specs.declared.value.Val.{Val}
use Rattle.flow_value.specs.declared.value.Val.TheVariants as val
use Rattle.flow_value.specs.declared.cause.Cause.TheVariants as cause
use Rattle.flow_value.specs.Scalar.{fitted, fits_64}
use Rattle.loop_folds.specs.Folds.{factor_of, product_of}
use Rattle.loop_folds.specs.Products.{product_of-append}
use Rattle.loop_folds.specs.Clamped.{clamped, past_times, times, fitted_clamped}

clamped-past : (z : ℤ) → 2 ^ 63 < unsigned_abs z → clamped z ≡ None
clamped-past z past = ap (λ b. if b then Some z else None) (lt-leb (unsigned_abs z) (2 ^ 63) past)

grows : (limit m n : ℕ) → limit < n → limit < n * suc m
grows limit m n past = omega (arith, mul-suc n m)

-- a factor that is not 0 leaves a number past the limit
stays_past : (a b : ℤ) (m : ℕ) → unsigned_abs a ≡ suc m → 2 ^ 63 < unsigned_abs b → clamped (a *ℤ b) ≡ None
stays_past a b m nonzero past =
    let size : unsigned_abs (a *ℤ b) ≡ unsigned_abs b * suc m =
    unsigned_abs-mul a b ∙ ap (λ n. n * unsigned_abs b) nonzero ∙ mul_comm (suc m) (unsigned_abs b) in
    clamped-past (a *ℤ b) (subst (λ n. 2 ^ 63 < n) (sym size) (grows (2 ^ 63) m (unsigned_abs b) past))

clamped-times_past : (a b : ℤ) → 2 ^ 63 < unsigned_abs b → clamped (a *ℤ b) ≡ past_times a
clamped-times_past (pos zero) b past = ap clamped (zero-*ℤ b)
clamped-times_past (pos (suc m)) b past = stays_past (pos (suc m)) b m refl past
clamped-times_past (negsuc m) b past = stays_past (negsuc m) b m refl past

clamped-past_times : (a b : ℤ) → 2 ^ 63 < unsigned_abs a → clamped (a *ℤ b) ≡ past_times b
clamped-past_times a b past = ap clamped (*ℤ_comm a b) ∙ clamped-times_past b a past

past_times-past : (a : ℤ) → 2 ^ 63 < unsigned_abs a → past_times a ≡ None
past_times-past (pos zero) past = absurd (omega arith)
past_times-past (pos (suc m)) past = refl
past_times-past (negsuc m) past = refl

clamped-by : (a b : ℤ) (p q : Bool) → nat_le (unsigned_abs a) (2 ^ 63) ≡ p → nat_le (unsigned_abs b) (2 ^ 63) ≡ q → clamped (a *ℤ b) ≡ times (if p then Some a else None) (if q then Some b else None)
clamped-by a b true true _ _ = refl
clamped-by a b true false _ past = clamped-times_past a b (leb-false (unsigned_abs b) (2 ^ 63) past)
clamped-by a b false true past _ = clamped-past_times a b (leb-false (unsigned_abs a) (2 ^ 63) past)
clamped-by a b false false past_a past_b =
    clamped-times_past a b (leb-false (unsigned_abs b) (2 ^ 63) past_b)
    ∙ past_times-past a (leb-false (unsigned_abs a) (2 ^ 63) past_a)

pub clamped-mul : (a b : ℤ) → clamped (a *ℤ b) ≡ times (clamped a) (clamped b)
clamped-mul a b = clamped-by a b (nat_le (unsigned_abs a) (2 ^ 63)) (nat_le (unsigned_abs b) (2 ^ 63)) refl refl

pub clamped-product : (xs ys : List Val) → clamped (product_of (xs ++ ys)) ≡ times (clamped (product_of xs)) (clamped (product_of ys))
clamped-product xs ys = ap clamped (product_of-append xs ys) ∙ clamped-mul (product_of xs) (product_of ys)

fits_64-past : (z : ℤ) → 2 ^ 63 < unsigned_abs z → fits_64 z ≡ false
fits_64-past (pos n) past = lt-leb (suc n) (2 ^ 63) (omega arith)
fits_64-past (negsuc n) past = lt-leb (suc n) (2 ^ 63) (omega arith)

fitted_by : (z : ℤ) (p : Bool) → nat_le (unsigned_abs z) (2 ^ 63) ≡ p → fitted_clamped (if p then Some z else None) ≡ fitted z
fitted_by z true _ = refl
fitted_by z false past =
    sym (ap (λ b. if b then val.Int z else val.Err cause.Overflow) (fits_64-past z (leb-false (unsigned_abs z) (2 ^ 63) past)))

pub fitted_clamped-clamped : (z : ℤ) → fitted_clamped (clamped z) ≡ fitted z
fitted_clamped-clamped z = fitted_by z (nat_le (unsigned_abs z) (2 ^ 63)) refl
