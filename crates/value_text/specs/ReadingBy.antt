-- How a value is read at a type by its number, from the front of a text.
use Rattle.std.specs.Prelude.{ℕ, zero, suc, ◌^◌, nat_lt, if◌then◌else◌, List, [], ◌∷◌, length, Option, Some, None, slice_get}
use Rattle.flow_value.specs.Bounds.{is_few}
use Rattle.flow_value.specs.declared.value.Val.{Val}
use Rattle.flow_value.specs.declared.value.Val.TheVariants as val
use Rattle.value_text.specs.Tokens.{◌>>=◌, or_else, past_blanks, sign_in}
use Rattle.value_text.specs.Reading.{Reader, with_rest, error_in, int_in, bool_in, null_in, char_in, with_part, array_in, stream_in, text_in, tag_in, small_tag, at_end}
use Rattle.value_text.specs.Numbered.{Numbered}
use Rattle.value_text.specs.declared.type_form.TypeForm.{TypeForm}
use Rattle.value_text.specs.declared.type_form.TypeForm.TheVariants as form

-- one part for each member
abbrev pub members_by : (ℕ → Reader) → List ℕ → List ℕ → Option (List Val × List ℕ)
members_by part [] t = Some ([], t)
members_by part (n ∷ ns) t = part n (past_blanks t) >>= λ p. with_part p.0 (members_by part ns p.1)

unfoldable pub record_by : (ℕ → Reader) → List ℕ → Reader
record_by part ns s =
    if is_few (length ns)
    then sign_in 60 s >>= (λ a. members_by part ns a >>= λ p. with_rest (val.Rec p.0) (sign_in 62 (past_blanks p.1)))
    else None

abbrev pub content_by : (ℕ → Reader) → ℕ → Option ℕ → Reader
content_by part n None t = None
content_by part n (Some m) t = part m (past_blanks t) >>= λ p. with_rest (val.Uni n p.0) (sign_in 41 (past_blanks p.1))

unfoldable pub union_by : (ℕ → Reader) → List ℕ → Reader
union_by part ns s = tag_in s >>= λ p. small_tag p.0 >>= λ n. content_by part n (slice_get ns n) p.1

-- a text, where the elements are characters
abbrev pub text_by : ℕ → TypeForm → Reader
text_by below form.Character s = text_in below s
text_by below _ s = None

abbrev pub form_by : Numbered → ℕ → (ℕ → Reader) → ℕ → TypeForm → Reader
form_by ts below part n form.Nothing s = None
form_by ts below part n form.Integer s = int_in s
form_by ts below part n form.Boolean s = bool_in s
form_by ts below part n form.Character s = char_in s
form_by ts below part n form.Null s = null_in s
form_by ts below part n (form.Array e) s = or_else (array_in (part e) s) (text_by below (ts.form e) s)
form_by ts below part n (form.Stream e) s = stream_in (part e) s
form_by ts below part n form.Record s = record_by part (ts.members n) s
form_by ts below part n form.Union s = union_by part (ts.members n) s

-- a value at a type, with so many levels below it
abbrev pub level_by : Numbered → ℕ → (ℕ → Reader) → ℕ → Reader
level_by ts below part n s = or_else (form_by ts below part n (ts.form n) s) (error_in s)

-- a part, where so many levels are left
abbrev pub part_by : Numbered → ℕ → ℕ → Reader
part_by ts zero n s = None
part_by ts (suc k) n s = level_by ts k (part_by ts k) n s

abbrev pub value_by : Numbered → ℕ → ℕ → Reader
value_by ts below n s = level_by ts below (part_by ts below) n s

-- the value that the whole text spells at the type of a number, with at most 63 levels below its own
abbrev pub text_value_by : List ℕ → Numbered → ℕ → Option Val
text_value_by text ts n = value_by ts 63 n (past_blanks text) >>= at_end
