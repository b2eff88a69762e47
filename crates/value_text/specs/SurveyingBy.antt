-- How a value text is looked at from the front beside a type by its number: the leftmost part of another form than that of
-- its type.
use Rattle.std.specs.Prelude.{ℕ, zero, suc, ◌+◌, ◌^◌, Bool, true, false, ◌==◌, nat_lt, if◌then◌else◌, List, [], ◌∷◌, length, Option, Some, None, slice_get}
use Rattle.std.specs.Option.{is_some}
use Rattle.value_text.specs.Tokens.{◌>>=◌, or_else, past_blanks, sign_in}
use Rattle.value_text.specs.Reading.{with_rest, int_in, bool_in, null_in, char_in, bound_in, tag_in}
use Rattle.value_text.specs.Faults.{unless_own}
use Rattle.value_text.specs.Surveying.{Look, LookParts, of_value, error_look, items_look, text_found, with_look, array_found, narrow_tag}
use Rattle.value_text.specs.Numbered.{Numbered}
use Rattle.value_text.specs.declared.type_form.TypeForm.{TypeForm}
use Rattle.value_text.specs.declared.type_form.TypeForm.TheVariants as form

-- ---- of a type

-- what the type that is asked for is
abbrev pub form_if : Numbered → Option ℕ → Option TypeForm
form_if ts None = None
form_if ts (Some n) = Some (ts.form n)

abbrev pub asks_by : (TypeForm → Bool) → Option TypeForm → Bool
asks_by own None = true
asks_by own (Some f) = own f

abbrev pub is_integer : TypeForm → Bool
is_integer form.Integer = true
is_integer _ = false

abbrev pub is_boolean : TypeForm → Bool
is_boolean form.Boolean = true
is_boolean _ = false

abbrev pub is_character : TypeForm → Bool
is_character form.Character = true
is_character _ = false

abbrev pub is_nil_type : TypeForm → Bool
is_nil_type form.Null = true
is_nil_type _ = false

abbrev pub is_array_type : TypeForm → Bool
is_array_type (form.Array e) = true
is_array_type _ = false

abbrev pub is_text_type : Numbered → TypeForm → Bool
is_text_type ts (form.Array e) = is_character (ts.form e)
is_text_type ts _ = false

abbrev pub is_stream_type : TypeForm → Bool
is_stream_type (form.Stream e) = true
is_stream_type _ = false

-- the members of the type that is asked for, where it is a record
abbrev pub fields_by : Numbered → ℕ → TypeForm → List ℕ
fields_by ts n form.Record = ts.members n
fields_by ts n _ = []

abbrev pub fields_if : Numbered → Option ℕ → List ℕ
fields_if ts None = []
fields_if ts (Some n) = fields_by ts n (ts.form n)

abbrev pub is_record_type : Numbered → ℕ → ℕ → TypeForm → Bool
is_record_type ts n count form.Record = length (ts.members n) == count
is_record_type ts n count _ = false

abbrev pub asks_record : Numbered → ℕ → Option ℕ → Bool
asks_record ts count None = true
asks_record ts count (Some n) = is_record_type ts n count (ts.form n)

-- tags are numbers of 32 bits
abbrev pub tag_by : List ℕ → ℕ → Option ℕ
tag_by ns k = if nat_lt k (2 ^ 32) then slice_get ns k else None

abbrev pub content_by_form : Numbered → ℕ → ℕ → TypeForm → Option ℕ
content_by_form ts n k form.Union = tag_by (ts.members n) k
content_by_form ts n k _ = None

abbrev pub content_if : Numbered → ℕ → Option ℕ → Option ℕ
content_if ts k None = None
content_if ts k (Some n) = content_by_form ts n k (ts.form n)

abbrev pub asks_union : Numbered → ℕ → Option ℕ → Bool
asks_union ts k None = true
asks_union ts k (Some n) = is_some (content_by_form ts n k (ts.form n))

abbrev pub element_by : TypeForm → Option ℕ
element_by (form.Array e) = Some e
element_by _ = None

abbrev pub element_if : Option TypeForm → Option ℕ
element_if None = None
element_if (Some f) = element_by f

abbrev pub item_by : TypeForm → Option ℕ
item_by (form.Stream e) = Some e
item_by _ = None

abbrev pub item_if : Option TypeForm → Option ℕ
item_if None = None
item_if (Some f) = item_by f

-- the type of the part at a place: that of all parts, or that of the member there
abbrev pub type_by : Option ℕ → List ℕ → ℕ → Option ℕ
type_by None ns i = slice_get ns i
type_by (Some n) ns i = Some n

-- ---- looks

unfoldable pub scalar_look_by : Option TypeForm → List ℕ → Option Look
scalar_look_by f s =
    or_else (bool_in s >>= of_value (asks_by is_boolean f) (length s))
    (or_else (null_in s >>= of_value (asks_by is_nil_type f) (length s))
    (or_else (char_in s >>= of_value (asks_by is_character f) (length s))
    (int_in s >>= of_value (asks_by is_integer f) (length s))))

unfoldable pub text_look_by : Numbered → Option TypeForm → ℕ → List ℕ → Option Look
text_look_by ts f below s = sign_in 34 s >>= λ a. items_look 4194304 a >>= text_found below (asks_by (is_text_type ts) f) (length s)

abbrev pub LookerBy : Type 0
LookerBy = Option ℕ → List ℕ → Option Look

-- parts up to the closing byte, at most so many, from a place on
unfoldable pub parts_look_by : LookerBy → Option ℕ → List ℕ → ℕ → ℕ → ℕ → List ℕ → Option LookParts
parts_look_by part o ns close zero i s = with_rest (0, None) (sign_in close s)
parts_look_by part o ns close (suc n) i s =
    or_else (with_rest (0, None) (sign_in close s)) (part (type_by o ns i) s >>= λ p. with_look p.0 (parts_look_by part o ns close n (i + 1) (past_blanks p.1)))

unfoldable pub array_look_by : LookerBy → Option TypeForm → List ℕ → Option Look
array_look_by part f s = bound_in s >>= λ b. parts_look_by part (element_if f) [] 93 4194304 0 (past_blanks b.1) >>= array_found b.0 (asks_by is_array_type f) (length s)

unfoldable pub stream_look_by : LookerBy → Option TypeForm → List ℕ → Option Look
stream_look_by part f s = sign_in 123 s >>= λ a. parts_look_by part (item_if f) [] 125 4194304 0 (past_blanks a) >>= λ p. Some (unless_own (asks_by is_stream_type f) (length s) p.0.1, p.1)

unfoldable pub record_look_by : Numbered → LookerBy → Option ℕ → List ℕ → Option Look
record_look_by ts part o s = sign_in 60 s >>= λ a. parts_look_by part None (fields_if ts o) 62 4194304 0 (past_blanks a) >>= λ p. Some (unless_own (asks_record ts p.0.0 o) (length s) p.0.1, p.1)

abbrev pub content_look_by : Numbered → LookerBy → Option ℕ → ℕ → ℕ → List ℕ → Option Look
content_look_by ts part o k n t = part (content_if ts n o) (past_blanks t) >>= λ p. with_rest (unless_own (asks_union ts n o) k p.0) (sign_in 41 (past_blanks p.1))

unfoldable pub union_look_by : Numbered → LookerBy → Option ℕ → List ℕ → Option Look
union_look_by ts part o s = tag_in s >>= λ p. narrow_tag p.0 >>= λ n. content_look_by ts part o (length s) n p.1

-- by the first byte
abbrev pub front_by : Numbered → ℕ → LookerBy → Option ℕ → List ℕ → Option Look
front_by ts below part o [] = None
front_by ts below part o (c ∷ t) =
    if c == 91 then array_look_by part (form_if ts o) (c ∷ t)
    else (if c == 123 then stream_look_by part (form_if ts o) (c ∷ t)
    else (if c == 60 then record_look_by ts part o (c ∷ t)
    else (if c == 40 then union_look_by ts part o (c ∷ t)
    else (if c == 34 then text_look_by ts (form_if ts o) below (c ∷ t)
    else scalar_look_by (form_if ts o) (c ∷ t)))))

abbrev pub level_look_by : Numbered → ℕ → LookerBy → LookerBy
level_look_by ts below part o s = or_else (error_look s) (front_by ts below part o s)

-- a part, where so many levels are left
abbrev pub look_by : Numbered → ℕ → LookerBy
look_by ts zero o s = None
look_by ts (suc n) o s = level_look_by ts n (look_by ts n) o s
