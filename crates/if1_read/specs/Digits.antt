-- Integers of 64 bits by their digits, and the parts of a character item.
use Rattle.std.specs.Prelude.{ℕ, ◌+◌, ◌*◌, ◌^◌, ℤ, pos, neg_ℤ, Bool, true, false, ◌&&◌, not, ◌==◌, nat_lt, nat_le, List, Option, Some, None, if◌then◌else◌}
use Rattle.flow_value.specs.Scalar.{fits_64}
use Rattle.if1_graph.specs.Tables.{◌>>=◌}
use Rattle.if1_graph.specs.Literals.{code, hex_digit, item, before_quote}

-- a number that 64 bits hold
abbrev pub in_64_bits : ℕ → Option ℕ
in_64_bits n = if nat_lt n (2 ^ 64) then Some n else None

abbrev pub if_small : Option ℕ → Option ℕ
if_small None = None
if_small (Some n) = in_64_bits n

-- within 64 signed bits
abbrev pub fitting : ℤ → Option ℤ
fitting z = if fits_64 z then Some z else None

abbrev pub with_sign : Bool → Option ℕ → Option ℤ
with_sign minus None = None
with_sign true (Some n) = fitting (neg_ℤ (pos n))
with_sign false (Some n) = fitting (pos n)

-- a printed byte other than the backslash, 92, and the quote, 39
abbrev pub plain_item : ℕ → Option ℕ
plain_item c = if nat_le 32 c && nat_le c 126 && not (c == 92) && not (c == 39) then Some c else None

abbrev pub hex_code : ℕ → ℕ → Option ℕ
hex_code high low = hex_digit high >>= λ h. hex_digit low >>= λ l. code (16 * h + l)

-- the item before a quote that ends a text
abbrev pub ended_item : List ℕ → Option ℕ
ended_item text = before_quote text >>= item
