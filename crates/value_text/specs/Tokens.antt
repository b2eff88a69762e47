-- The tokens of a value text, read from the front. What is read comes with the text behind it.
use Rattle.std.specs.Prelude.{ℕ, ◌+◌, ◌-◌, ◌*◌, ◌^◌, ℤ, pos, neg_ℤ, Bool, true, false, ◌&&◌, ◌||◌, not, ◌==◌, nat_lt, nat_le, if◌then◌else◌, List, [], ◌∷◌, Option, Some, None, option_map, drop}
use Rattle.flow_value.specs.Scalar.{fits_64}

infixl 10 ◌>>=◌
abbrev pub ◌>>=◌ : {A B : Type 0} → Option A → (A → Option B) → Option B
None >>= f = None
(Some x) >>= f = f x

-- the first of two that is there
abbrev pub or_else : {A : Type 0} → Option A → Option A → Option A
or_else None other = other
or_else (Some x) other = Some x

-- what was read up to a place, with the text from there on
abbrev pub placed : {A : Type 0} → List ℕ → Option (A × ℕ) → Option (A × List ℕ)
placed text None = None
placed text (Some p) = Some (p.0, drop p.1 text)

abbrev pub from_place : List ℕ → Option ℕ → Option (List ℕ)
from_place text None = None
from_place text (Some k) = Some (drop k text)

-- blanks are the codes 9, 10, 13 and 32
abbrev pub is_blank : ℕ → Bool
is_blank c = (c == 32) || (c == 10) || (c == 13) || (c == 9)

abbrev pub is_digit : ℕ → Bool
is_digit c = nat_le 48 c && nat_le c 57

abbrev pub is_letter : ℕ → Bool
is_letter c = (nat_le 65 c && nat_le c 90) || (nat_le 97 c && nat_le c 122)

-- the text behind the blanks at its front
abbrev pub past_blanks : List ℕ → List ℕ
past_blanks [] = []
past_blanks (c ∷ t) = if is_blank c then past_blanks t else c ∷ t

-- a row of letters and digits ends before this text
abbrev pub ends_row : List ℕ → Bool
ends_row [] = true
ends_row (c ∷ t) = not (is_digit c || is_letter c)

-- one byte
abbrev pub sign_in : ℕ → List ℕ → Option (List ℕ)
sign_in c [] = None
sign_in c (d ∷ t) = if d == c then Some t else None

-- these bytes
abbrev pub bytes_in : List ℕ → List ℕ → Option (List ℕ)
bytes_in [] s = Some s
bytes_in (c ∷ w) s = sign_in c s >>= bytes_in w

-- a row of letters and digits ends where the text behind it begins
abbrev pub row_end : List ℕ → Option (List ℕ)
row_end r = if ends_row r then Some r else None

abbrev pub word_in : List ℕ → List ℕ → Option (List ℕ)
word_in w s = bytes_in w s >>= row_end

-- n with the digits at the front behind it
abbrev pub number_from : ℕ → List ℕ → ℕ × List ℕ
number_from n [] = (n, [])
number_from n (c ∷ t) = if is_digit c then number_from (n * 10 + (c - 48)) t else (n, c ∷ t)

abbrev pub row_number : ℕ × List ℕ → Option (ℕ × List ℕ)
row_number p = if ends_row p.1 then Some p else None

-- a number below 2 ^ 64
abbrev pub in_64_bits : ℕ × List ℕ → Option (ℕ × List ℕ)
in_64_bits p = if nat_lt p.0 (2 ^ 64) then Some p else None

abbrev pub with_digit : ℕ → ℕ → Option ℕ
with_digit n c = if nat_lt (n * 10 + (c - 48)) (2 ^ 64) then Some (n * 10 + (c - 48)) else None

abbrev pub number_in : List ℕ → Option (ℕ × List ℕ)
number_in [] = None
number_in (c ∷ t) = if is_digit c then in_64_bits (number_from 0 (c ∷ t)) >>= row_number else None

abbrev pub not_negative : ℕ × List ℕ → ℤ × List ℕ
not_negative p = (pos p.0, p.1)

abbrev pub negated : ℕ × List ℕ → ℤ × List ℕ
negated p = (neg_ℤ (pos p.0), p.1)

-- a whole number, where blanks may stand behind the minus
abbrev pub signed_by : List ℕ → Option (List ℕ) → Option (ℤ × List ℕ)
signed_by s None = option_map not_negative (number_in s)
signed_by s (Some t) = option_map negated (number_in (past_blanks t))

-- one that fits 64 signed bits
abbrev pub fitting : ℤ × List ℕ → Option (ℤ × List ℕ)
fitting p = if fits_64 p.0 then Some p else None

abbrev pub integer_in : List ℕ → Option (ℤ × List ℕ)
integer_in s = signed_by s (sign_in 45 s) >>= fitting

-- a byte from 32 to 126 other than the backslash and the closing quote
abbrev pub is_plain : ℕ → ℕ → Bool
is_plain quote c = nat_le 32 c && nat_le c 126 && not (c == 92) && not (c == quote)

abbrev pub hex_digit : ℕ → Option ℕ
hex_digit c =
    if is_digit c then Some (c - 48)
    else (if nat_le 65 c && nat_le c 70 then Some (c - 55)
    else (if nat_le 97 c && nat_le c 102 then Some (c - 87)
    else None))

-- two hexadecimal digits of value at most 7f
abbrev pub hex_in : List ℕ → Option (ℕ × List ℕ)
hex_in [] = None
hex_in (h ∷ []) = None
hex_in (h ∷ l ∷ t) = if nat_le 48 h && nat_le h 55 then option_map (λ low. ((h - 48) * 16 + low, t)) (hex_digit l) else None

-- what one of n, t, r, the backslash and the quotes stands for behind a backslash
abbrev pub escape_of : ℕ → Option ℕ
escape_of d =
    if d == 110 then Some 10
    else (if d == 116 then Some 9
    else (if d == 114 then Some 13
    else (if (d == 92) || (d == 39) || (d == 34) then Some d
    else None)))

abbrev pub escape_in : List ℕ → Option (ℕ × List ℕ)
escape_in [] = None
escape_in (d ∷ t) = if d == 120 then hex_in t else option_map (λ c. (c, t)) (escape_of d)

-- one item of a character or text that this quote closes
abbrev pub item_in : ℕ → List ℕ → Option (ℕ × List ℕ)
item_in quote [] = None
item_in quote (c ∷ t) = if c == 92 then escape_in t else (if is_plain quote c then Some (c, t) else None)
