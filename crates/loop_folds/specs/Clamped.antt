-- Whole numbers as far as a product needs them: exact up to 2^63 in absolute value, and past that
-- only that they are.
use Rattle.std.specs.Prelude.{◌^◌, ◌≤◌, nat_le, ℤ, pos, ◌*ℤ◌, unsigned_abs, if◌then◌else◌, Option, Some, None}
use Rattle.std.specs.Option.{ForSome}
use Rattle.flow_value.specs.declared.value.Val.{Val}
use Rattle.flow_value.specs.declared.value.Val.TheVariants as val
use Rattle.flow_value.specs.declared.cause.Cause.TheVariants as cause
use Rattle.flow_value.specs.Scalar.{fitted, is_zero}

abbrev pub clamped : ℤ → Option ℤ
clamped z = if nat_le (unsigned_abs z) (2 ^ 63) then Some z else None

abbrev pub IsClamped : Option ℤ → Type 0
IsClamped o = ForSome o (λ z. unsigned_abs z ≤ 2 ^ 63)

-- a number past 2^63 times another: only 0 brings it back
abbrev pub past_times : ℤ → Option ℤ
past_times z = if is_zero z then Some (pos 0) else None

abbrev pub times : Option ℤ → Option ℤ → Option ℤ
times (Some a) (Some b) = clamped (a *ℤ b)
times (Some a) None = past_times a
times None (Some b) = past_times b
times None None = None

-- what is known of a number, brought to 64 bits
abbrev pub fitted_clamped : Option ℤ → Val
fitted_clamped (Some z) = fitted z
fitted_clamped None = val.Err cause.Overflow
