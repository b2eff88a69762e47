-- Whole numbers in a row.
use Rattle.std.proofs.Common.{◌≡◌, ℕ, zero, suc, ◌+◌, ◌<◌, ◌≤◌, ℤ, pos, negsuc, true, length, refl, ap, ◌∙◌, arith, if◌then◌else◌}
use Rattle.std.specs.Prelude.{◌+ℤ◌, ◌-ℤ◌, int_le, nat_lt}
use Rattle.std.proofs.lemmas.Int.{ints}
use Rattle.std.proofs.lemmas.Bool.{lt-ltb, ltb-true, leb-true}
use Rattle.std.proofs.lemmas.Bool.Decides.{nat_tests}
use Rattle.flow_value.specs.Bounds.{is_few, is_in_range}
use Rattle.flow_value.specs.Scalar.{fits_64, fitted}
use Rattle.flow_value.specs.declared.value.Val.TheVariants as val
use Rattle.flow_value.specs.declared.cause.Cause.TheVariants as cause
use Rattle.value_ops.specs.Aggregates.{places, natural}
use Rattle.meaning.specs.Words.{value_at}
use Rattle.graph_meaning.specs.NodeValues.{rising}
use Rattle.typed_rows.proofs.Rows.{and_two}

-- the first so many numbers fit 64 bits
abbrev pub Fit : ℤ → ℕ → Type 0
Fit lo n = (i : ℕ) → i < n → fits_64 (lo +ℤ pos i) ≡ true

low-fits : (lo : ℤ) (i m : ℕ) → fits_64 lo ≡ true → lo +ℤ pos i ≡ negsuc m → m < 9223372036854775808
low-fits (pos a) i m f e = absurd (omega (arith, ints, e))
low-fits (negsuc a) i m f e = let l : a < 9223372036854775808 = ltb-true a 9223372036854775808 f in omega (arith, ints, e, l)

high-fits : (lo y : ℤ) (i n m : ℕ) → i < n → lo +ℤ pos n ≡ y → int_le y (pos 9223372036854775808) ≡ true → lo +ℤ pos i ≡ pos m → m < 9223372036854775808
high-fits lo (pos k) i n m lt e le f = let l : k ≤ 9223372036854775808 = leb-true k 9223372036854775808 le in omega (arith, ints, lt, e, l, f)
high-fits lo (negsuc k) i n m lt e le f = absurd (omega (arith, ints, lt, e, f))

pub places-fit : (lo : ℤ) (n : ℕ) → fits_64 lo ≡ true → is_in_range lo n ≡ true → Fit lo n
places-fit lo n f r i lt = go (lo +ℤ pos i) refl
  where
    le : int_le (lo +ℤ pos n) (pos 9223372036854775808) ≡ true
    le = (and_two (int_le (negsuc 9223372036854775806) (lo +ℤ pos n)) (int_le (lo +ℤ pos n) (pos 9223372036854775808)) r).1

    go : (z : ℤ) → lo +ℤ pos i ≡ z → fits_64 z ≡ true
    go (pos m) e = lt-ltb m 9223372036854775808 (high-fits lo (lo +ℤ pos n) i n m lt refl le e)
    go (negsuc m) e = lt-ltb m 9223372036854775808 (low-fits lo i m f e)

pub few-fit : (n : ℕ) → is_few n ≡ true → Fit (pos 1) n
few-fit n few i lt = let l : n ≤ 4194304 = leb-true n 4194304 few in lt-ltb (1 + i) 9223372036854775808 (omega (arith, l, lt))

below-fits : (lo hi : ℤ) (k i m : ℕ) → fits_64 hi ≡ true → hi -ℤ lo ≡ pos k → i < suc k → lo +ℤ pos i ≡ pos m → m < 9223372036854775808
below-fits lo (pos h) k i m f e lt g = let l : h < 9223372036854775808 = ltb-true h 9223372036854775808 f in omega (arith, ints, l, e, lt, g)
below-fits lo (negsuc h) k i m f e lt g = absurd (omega (arith, ints, e, lt, g))

-- those of a range
pub range-fits : (lo hi : ℤ) (k : ℕ) → fits_64 lo ≡ true → fits_64 hi ≡ true → hi -ℤ lo ≡ pos k → Fit lo (suc k)
range-fits lo hi k f h e i lt = go (lo +ℤ pos i) refl
  where
    go : (z : ℤ) → lo +ℤ pos i ≡ z → fits_64 z ≡ true
    go (pos m) g = lt-ltb m 9223372036854775808 (below-fits lo hi k i m h e lt g)
    go (negsuc m) g = lt-ltb m 9223372036854775808 (low-fits lo i m f g)

-- ---- how many they are

naturals : (z : ℤ) (k : ℕ) → z ≡ pos k → natural z ≡ k
naturals (pos n) k e = omega (arith, ints, e)
naturals (negsuc n) k e = absurd (omega (arith, ints, e))

no-naturals : (z w : ℤ) (k : ℕ) → w ≡ negsuc k → z ≡ w +ℤ pos 1 → natural z ≡ 0
no-naturals (pos n) w k e f = omega (arith, ints, e, f)
no-naturals (negsuc n) w k e f = refl

pub some-places : (lo hi : ℤ) (k : ℕ) → hi -ℤ lo ≡ pos k → places lo hi ≡ suc k
some-places lo hi k e = naturals ((hi +ℤ pos 1) -ℤ lo) (suc k) (omega (arith, ints, e))

pub no-places : (lo hi : ℤ) (k : ℕ) → hi -ℤ lo ≡ negsuc k → places lo hi ≡ 0
no-places lo hi k e = no-naturals ((hi +ℤ pos 1) -ℤ lo) (hi -ℤ lo) k e (omega (arith, ints))

pub few-same : (k : ℕ) → is_few (suc k) ≡ nat_lt k 4194304
few-same k = grind (arith, nat_tests)

-- ---- the numbers

pub rising-long : (n : ℕ) (lo : ℤ) → length (rising lo n) ≡ n
rising-long zero lo = refl
rising-long (suc n) lo = ap suc (rising-long n (lo +ℤ pos 1))

pub rising-at : (n : ℕ) (lo : ℤ) (i : ℕ) → i < n → value_at (rising lo n) i ≡ val.Int (lo +ℤ pos i)
rising-at zero lo i h = absurd (omega (arith, h))
rising-at (suc n) lo zero h = let e : lo ≡ lo +ℤ pos 0 = omega (arith, ints) in ap val.Int e
rising-at (suc n) lo (suc i) h = let e : (lo +ℤ pos 1) +ℤ pos i ≡ lo +ℤ pos (suc i) = omega (arith, ints) in rising-at n (lo +ℤ pos 1) i (omega (arith, h)) ∙ ap val.Int e

pub fitted-is : (z : ℤ) → fits_64 z ≡ true → fitted z ≡ val.Int z
fitted-is z h = ap (λ b. if b then val.Int z else val.Err cause.Overflow) h
