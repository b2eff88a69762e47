-- How a value is read at a type from the front of a text, one token after another.
use Rattle.std.specs.Prelude.{ℕ, zero, suc, ◌^◌, ℤ, pos, Bool, true, false, nat_lt, if◌then◌else◌, List, [], ◌∷◌, length, Option, Some, None, slice_get, codes}
use Rattle.flow_value.specs.Bounds.{bounded, is_few, is_within}
use Rattle.flow_value.specs.declared.cause.Cause.{Cause}
use Rattle.flow_value.specs.declared.cause.Cause.TheVariants as cause
use Rattle.flow_value.specs.declared.value.Val.{Val}
use Rattle.flow_value.specs.declared.value.Val.TheVariants as val
use Rattle.flow_value.specs.declared.ty.Ty.{Ty}
use Rattle.flow_value.specs.declared.ty.Ty.TheOpen.{Ty-F}
use Rattle.flow_value.specs.declared.ty.Ty.TheViews.{out-Ty}
use Rattle.value_text.specs.Tokens.{◌>>=◌, or_else, past_blanks, sign_in, word_in, number_in, integer_in, item_in}

abbrev pub is_nil : List ℕ → Bool
is_nil [] = true
is_nil (c ∷ t) = false

abbrev pub Reader : Type 0
Reader = List ℕ → Option (Val × List ℕ)

-- a thing behind which this text follows
abbrev pub with_rest : {A : Type 0} → A → Option (List ℕ) → Option (A × List ℕ)
with_rest x None = None
with_rest x (Some r) = Some (x, r)

-- ---- errors

abbrev pub cause_in : List ℕ → Option (Cause × List ℕ)
cause_in s =
    or_else (with_rest cause.Overflow (word_in (codes "overflow") s))
    (or_else (with_rest cause.Zero (word_in (codes "zero") s))
    (or_else (with_rest cause.Bounds (word_in (codes "bounds") s))
    (or_else (with_rest cause.Empty (word_in (codes "empty") s))
    (or_else (with_rest cause.Size (word_in (codes "size") s))
    (or_else (with_rest cause.Tag (word_in (codes "tag") s))
    (with_rest cause.Explicit (word_in (codes "explicit") s)))))))

-- a parenthesis and a cause behind the word `error`
abbrev pub cause_after : List ℕ → Option (Cause × List ℕ)
cause_after r = sign_in 40 (past_blanks r) >>= λ t. cause_in (past_blanks t)

abbrev pub closed_error : List ℕ → Option (Cause × List ℕ) → Option (Val × List ℕ)
closed_error r None = Some (val.Err cause.Explicit, r)
closed_error r (Some p) = with_rest (val.Err p.0) (sign_in 41 (past_blanks p.1))

unfoldable pub error_in : Reader
error_in s = word_in (codes "error") s >>= λ r. closed_error r (cause_after r)

-- ---- scalars

abbrev pub int_of : ℤ × List ℕ → Option (Val × List ℕ)
int_of p = Some (val.Int p.0, p.1)

unfoldable pub int_in : Reader
int_in s = integer_in s >>= int_of

unfoldable pub bool_in : Reader
bool_in s = or_else (with_rest (val.Bool true) (word_in (codes "T") s)) (with_rest (val.Bool false) (word_in (codes "F") s))

unfoldable pub null_in : Reader
null_in s = with_rest val.Null (word_in (codes "nil") s)

unfoldable pub char_in : Reader
char_in s = sign_in 39 s >>= λ t. item_in 39 t >>= λ p. with_rest (val.Char p.0) (sign_in 39 p.1)

-- ---- parts

abbrev pub with_part : Val → Option (List Val × List ℕ) → Option (List Val × List ℕ)
with_part v None = None
with_part v (Some p) = Some (v ∷ p.0, p.1)

-- parts up to the closing byte, at most so many; `gap` drops what may stand between them
unfoldable pub many_in : (List ℕ → List ℕ) → Reader → ℕ → ℕ → List ℕ → Option (List Val × List ℕ)
many_in gap part close zero s = with_rest [] (sign_in close s)
many_in gap part close (suc n) s = or_else (with_rest [] (sign_in close s)) (part s >>= λ p. with_part p.0 (many_in gap part close n (gap p.1)))

-- one part for each field
abbrev pub fields_in : (Ty → Reader) → List (List ℕ × Ty) → List ℕ → Option (List Val × List ℕ)
fields_in part [] t = Some ([], t)
fields_in part (f ∷ fs) t = part f.1 (past_blanks t) >>= λ p. with_part p.0 (fields_in part fs p.1)

-- ---- aggregates

abbrev pub array_of : ℤ → List Val → Option Val
array_of lo vs = if is_within lo (length vs) then Some (val.Arr (bounded lo vs)) else None

abbrev pub array_read : ℤ → List Val × List ℕ → Option (Val × List ℕ)
array_read lo p = array_of lo p.0 >>= λ v. Some (v, p.1)

-- the bracket, the lower bound and the colon
abbrev pub bound_in : List ℕ → Option (ℤ × List ℕ)
bound_in s = sign_in 91 s >>= λ a. integer_in (past_blanks a) >>= λ p. with_rest p.0 (sign_in 58 (past_blanks p.1))

unfoldable pub array_in : Reader → Reader
array_in part s = bound_in s >>= λ p. many_in past_blanks part 93 4194304 (past_blanks p.1) >>= array_read p.0

unfoldable pub stream_in : Reader → Reader
stream_in part s = sign_in 123 s >>= λ a. many_in past_blanks part 125 4194304 (past_blanks a) >>= λ p. Some (val.Stream p.0, p.1)

-- a character between the quotes of a text
abbrev pub char_of : ℕ × List ℕ → Option (Val × List ℕ)
char_of p = Some (val.Char p.0, p.1)

abbrev pub char_item : Reader
char_item s = item_in 34 s >>= char_of

abbrev pub no_gap : List ℕ → List ℕ
no_gap t = t

-- characters need a level below the text's own
abbrev pub has_room : ℕ → List Val → Bool
has_room below [] = true
has_room below (v ∷ vs) = nat_lt 0 below

abbrev pub text_read : ℕ → List Val × List ℕ → Option (Val × List ℕ)
text_read below p = if has_room below p.0 then array_read (pos 1) p else None

unfoldable pub text_in : ℕ → Reader
text_in below s = sign_in 34 s >>= λ a. many_in no_gap char_item 34 4194304 a >>= text_read below

unfoldable pub record_in : (Ty → Reader) → List (List ℕ × Ty) → Reader
record_in part fs s =
    if is_few (length fs)
    then sign_in 60 s >>= (λ a. fields_in part fs a >>= λ p. with_rest (val.Rec p.0) (sign_in 62 (past_blanks p.1)))
    else None

-- the parenthesis, the number and the colon
abbrev pub tag_in : List ℕ → Option (ℕ × List ℕ)
tag_in s = sign_in 40 s >>= λ a. number_in (past_blanks a) >>= λ p. with_rest p.0 (sign_in 58 (past_blanks p.1))

-- tags are numbers of 32 bits
abbrev pub small_tag : ℕ → Option ℕ
small_tag n = if nat_lt n (2 ^ 32) then Some n else None

abbrev pub content_in : (Ty → Reader) → ℕ → Option (List ℕ × Ty) → Reader
content_in part n None t = None
content_in part n (Some f) t = part f.1 (past_blanks t) >>= λ p. with_rest (val.Uni n p.0) (sign_in 41 (past_blanks p.1))

unfoldable pub union_in : (Ty → Reader) → List (List ℕ × Ty) → Reader
union_in part fs s = tag_in s >>= λ p. small_tag p.0 >>= λ n. content_in part n (slice_get fs n) p.1

-- ---- levels

-- a text, where the elements are characters
abbrev pub text_at : ℕ → Ty-F Ty → Reader
text_at below Ty-F.Char s = text_in below s
text_at below _ s = None

abbrev pub typed_in : ℕ → (Ty → Reader) → Ty-F Ty → Reader
typed_in below part Ty-F.Int s = int_in s
typed_in below part Ty-F.Bool s = bool_in s
typed_in below part Ty-F.Char s = char_in s
typed_in below part Ty-F.Null s = null_in s
typed_in below part (Ty-F.Arr e) s = or_else (array_in (part e) s) (text_at below (out-Ty e) s)
typed_in below part (Ty-F.Stream e) s = stream_in (part e) s
typed_in below part (Ty-F.Rec fs) s = record_in part fs s
typed_in below part (Ty-F.Uni fs) s = union_in part fs s

-- a value at a type, with so many levels below it
abbrev pub level_in : ℕ → (Ty → Reader) → Ty → Reader
level_in below part ty s = or_else (typed_in below part (out-Ty ty) s) (error_in s)

-- a part, where so many levels are left
abbrev pub part_in : ℕ → Ty → Reader
part_in zero ty s = None
part_in (suc n) ty s = level_in n (part_in n) ty s

abbrev pub value_in : ℕ → Ty → Reader
value_in below ty s = level_in below (part_in below) ty s

abbrev pub at_end : Val × List ℕ → Option Val
at_end p = if is_nil (past_blanks p.1) then Some p.0 else None

-- the value that the whole text spells at the type, with at most 63 levels below its own
abbrev pub text_value : List ℕ → Ty → Option Val
text_value text ty = value_in 63 ty (past_blanks text) >>= at_end
