-- How a value text is looked at from the front, one token after another: the leftmost part of another
-- form than that of its type, told by what is left of the text there.
use Rattle.std.specs.Prelude.{ℕ, zero, suc, ◌+◌, ◌^◌, ℤ, Bool, true, false, ◌||◌, ◌==◌, nat_lt, if◌then◌else◌, List, [], ◌∷◌, length, Option, Some, None, option_map}
use Rattle.flow_value.specs.Bounds.{is_within as within_bounds}
use Rattle.flow_value.specs.declared.value.Val.{Val}
use Rattle.flow_value.specs.declared.ty.Ty.{Ty}
use Rattle.value_text.specs.Tokens.{◌>>=◌, or_else, past_blanks, sign_in, item_in}
use Rattle.value_text.specs.Reading.{with_rest, error_in, int_in, bool_in, null_in, char_in, bound_in, tag_in}
use Rattle.value_text.specs.Faults.{asks, is_int, is_bool, is_char, is_null, is_array, is_text, is_stream, is_record, is_union, element_of, item_of, fields_of, content_of, type_at, unless_own}

-- what is left at the leftmost misfit, and behind the part
abbrev pub Look : Type 0
Look = Option ℕ × List ℕ

-- parts: how many, the leftmost misfit, and what is behind them
abbrev pub LookParts : Type 0
LookParts = (ℕ × Option ℕ) × List ℕ

abbrev pub of_value : Bool → ℕ → Val × List ℕ → Option Look
of_value own k p = Some (unless_own own k None, p.1)

abbrev pub error_look : List ℕ → Option Look
error_look s = error_in s >>= λ p. Some (None, p.1)

unfoldable pub scalar_look : Option Ty → List ℕ → Option Look
scalar_look ty s =
    or_else (bool_in s >>= of_value (asks is_bool ty) (length s))
    (or_else (null_in s >>= of_value (asks is_null ty) (length s))
    (or_else (char_in s >>= of_value (asks is_char ty) (length s))
    (int_in s >>= of_value (asks is_int ty) (length s))))

abbrev pub one_more : Option (ℕ × List ℕ) → Option (ℕ × List ℕ)
one_more None = None
one_more (Some p) = Some (p.0 + 1, p.1)

-- the items of a text, at most so many
unfoldable pub items_look : ℕ → List ℕ → Option (ℕ × List ℕ)
items_look zero s = with_rest 0 (sign_in 34 s)
items_look (suc n) s = or_else (with_rest 0 (sign_in 34 s)) (item_in 34 s >>= λ p. one_more (items_look n p.1))

abbrev pub text_found : ℕ → Bool → ℕ → ℕ × List ℕ → Option Look
text_found below own k p = if (p.0 == 0) || nat_lt 0 below then Some (unless_own own k None, p.1) else None

unfoldable pub text_look : Option Ty → ℕ → List ℕ → Option Look
text_look ty below s = sign_in 34 s >>= λ a. items_look 4194304 a >>= text_found below (asks is_text ty) (length s)

abbrev pub Looker : Type 0
Looker = Option Ty → List ℕ → Option Look

abbrev pub with_look : Option ℕ → Option LookParts → Option LookParts
with_look w None = None
with_look w (Some p) = Some ((p.0.0 + 1, or_else w p.0.1), p.1)

-- parts up to the closing byte, at most so many, from a place on
unfoldable pub parts_look : Looker → Option Ty → List (List ℕ × Ty) → ℕ → ℕ → ℕ → List ℕ → Option LookParts
parts_look part ty fs close zero i s = with_rest (0, None) (sign_in close s)
parts_look part ty fs close (suc n) i s =
    or_else (with_rest (0, None) (sign_in close s)) (part (type_at ty fs i) s >>= λ p. with_look p.0 (parts_look part ty fs close n (i + 1) (past_blanks p.1)))

abbrev pub array_found : ℤ → Bool → ℕ → LookParts → Option Look
array_found lo own k p = if within_bounds lo p.0.0 then Some (unless_own own k p.0.1, p.1) else None

unfoldable pub array_look : Looker → Option Ty → List ℕ → Option Look
array_look part ty s = bound_in s >>= λ b. parts_look part (element_of ty) [] 93 4194304 0 (past_blanks b.1) >>= array_found b.0 (asks is_array ty) (length s)

unfoldable pub stream_look : Looker → Option Ty → List ℕ → Option Look
stream_look part ty s = sign_in 123 s >>= λ a. parts_look part (item_of ty) [] 125 4194304 0 (past_blanks a) >>= λ p. Some (unless_own (asks is_stream ty) (length s) p.0.1, p.1)

unfoldable pub record_look : Looker → Option Ty → List ℕ → Option Look
record_look part ty s = sign_in 60 s >>= λ a. parts_look part None (fields_of ty) 62 4194304 0 (past_blanks a) >>= λ p. Some (unless_own (asks (is_record p.0.0) ty) (length s) p.0.1, p.1)

abbrev pub narrow_tag : ℕ → Option ℕ
narrow_tag n = if nat_lt n (2 ^ 63) then Some n else None

abbrev pub content_look : Looker → Option Ty → ℕ → ℕ → List ℕ → Option Look
content_look part ty k n t = part (content_of n ty) (past_blanks t) >>= λ p. with_rest (unless_own (asks (is_union n) ty) k p.0) (sign_in 41 (past_blanks p.1))

unfoldable pub union_look : Looker → Option Ty → List ℕ → Option Look
union_look part ty s = tag_in s >>= λ p. narrow_tag p.0 >>= λ n. content_look part ty (length s) n p.1

-- by the first byte
abbrev pub by_front : ℕ → Looker → Option Ty → List ℕ → Option Look
by_front below part ty [] = None
by_front below part ty (c ∷ t) =
    if c == 91 then array_look part ty (c ∷ t)
    else (if c == 123 then stream_look part ty (c ∷ t)
    else (if c == 60 then record_look part ty (c ∷ t)
    else (if c == 40 then union_look part ty (c ∷ t)
    else (if c == 34 then text_look ty below (c ∷ t)
    else scalar_look ty (c ∷ t)))))

abbrev pub level_look : ℕ → Looker → Looker
level_look below part ty s = or_else (error_look s) (by_front below part ty s)

-- a part, where so many levels are left
abbrev pub look : ℕ → Looker
look zero ty s = None
look (suc n) ty s = level_look n (look n) ty s
