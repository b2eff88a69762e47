-- What each fault says of a text.
use Rattle.std.specs.Prelude.{ℕ, zero, suc, ◌≡◌, ◌+◌, ◌-◌, ◌^◌, Bool, true, false, ◌&&◌, ◌==◌, nat_lt, if◌then◌else◌, List, [], ◌∷◌, length, Option, Some, None, option_map, slice_get}
use Rattle.std.specs.Option.{is_some}
use Rattle.flow_value.specs.Bounds.{is_few, is_within as within_bounds}
use Rattle.flow_value.specs.Scalar.{fits_64}
use Rattle.flow_value.specs.declared.ty.Ty.{Ty}
use Rattle.flow_value.specs.declared.ty.Ty.TheOpen.{Ty-F}
use Rattle.flow_value.specs.declared.ty.Ty.TheViews.{out-Ty}
use Rattle.value_text.specs.Tokens.{or_else, past_blanks}
use Rattle.value_text.specs.Forms.{Form, Parts, none, part, SpellsForm, IsValueText, FirstBad}
use Rattle.value_text.specs.Forms as form
use Rattle.value_text.specs.declared.fault.ValueFault.{ValueFault}
use Rattle.value_text.specs.declared.fault.ValueFault.TheVariants as faults

-- ---- limits

-- how many parts
abbrev pub count : Parts → ℕ
count none = 0
count (part k f ps) = count ps + 1

-- characters need a level below the text's own
abbrev pub has_level : ℕ → List ℕ → Bool
has_level below [] = true
has_level below (c ∷ cs) = nat_lt 0 below

-- The form is within the limits, where so many levels are left: a scalar or an aggregate without parts
-- takes one, another aggregate one more than its deepest part; integers, bounds and tags of 64 signed
-- bits, at most 4,194,304 parts, the last place of an array of 64 signed bits.
abbrev mutual
  pub is_within : Form → ℕ → Bool
  is_within form.error zero = false
  is_within form.error (suc n) = true
  is_within (form.error_because c) zero = false
  is_within (form.error_because c) (suc n) = true
  is_within (form.integer z) zero = false
  is_within (form.integer z) (suc n) = fits_64 z
  is_within (form.boolean b) zero = false
  is_within (form.boolean b) (suc n) = true
  is_within (form.character c) zero = false
  is_within (form.character c) (suc n) = true
  is_within (form.characters cs) zero = false
  is_within (form.characters cs) (suc n) = is_few (length cs) && has_level n cs
  is_within form.nil zero = false
  is_within form.nil (suc n) = true
  is_within (form.array lo ps) zero = false
  is_within (form.array lo ps) (suc n) = fits_64 lo && (are_within ps n && within_bounds lo (count ps))
  is_within (form.stream ps) zero = false
  is_within (form.stream ps) (suc n) = are_within ps n && is_few (count ps)
  is_within (form.fields ps) zero = false
  is_within (form.fields ps) (suc n) = are_within ps n && is_few (count ps)
  is_within (form.union t k f) zero = false
  is_within (form.union t k f) (suc n) = nat_lt t (2 ^ 63) && is_within f n

  pub are_within : Parts → ℕ → Bool
  are_within none n = true
  are_within (part k f ps) n = is_within f n && are_within ps n

-- ---- of a type

-- The type has this form of its own, or no type is asked for.
abbrev pub asks : (Ty-F Ty → Bool) → Option Ty → Bool
asks own None = true
asks own (Some ty) = own (out-Ty ty)

abbrev pub is_int : Ty-F Ty → Bool
is_int Ty-F.Int = true
is_int _ = false

abbrev pub is_bool : Ty-F Ty → Bool
is_bool Ty-F.Bool = true
is_bool _ = false

abbrev pub is_char : Ty-F Ty → Bool
is_char Ty-F.Char = true
is_char _ = false

abbrev pub is_null : Ty-F Ty → Bool
is_null Ty-F.Null = true
is_null _ = false

abbrev pub is_array : Ty-F Ty → Bool
is_array (Ty-F.Arr e) = true
is_array _ = false

-- texts are arrays of characters
abbrev pub is_text : Ty-F Ty → Bool
is_text (Ty-F.Arr e) = is_char (out-Ty e)
is_text _ = false

abbrev pub is_stream : Ty-F Ty → Bool
is_stream (Ty-F.Stream e) = true
is_stream _ = false

abbrev pub is_record : ℕ → Ty-F Ty → Bool
is_record n (Ty-F.Rec fs) = length fs == n
is_record n _ = false

-- tags are numbers of 32 bits
abbrev pub tag_type : List (List ℕ × Ty) → ℕ → Option Ty
tag_type tags n = if nat_lt n (2 ^ 32) then option_map (λ f. f.1) (slice_get tags n) else None

abbrev pub is_union : ℕ → Ty-F Ty → Bool
is_union n (Ty-F.Uni tags) = is_some (tag_type tags n)
is_union n _ = false

-- the types of the parts
abbrev pub element_in : Ty-F Ty → Option Ty
element_in (Ty-F.Arr e) = Some e
element_in _ = None

abbrev pub item_in_stream : Ty-F Ty → Option Ty
item_in_stream (Ty-F.Stream e) = Some e
item_in_stream _ = None

abbrev pub fields_in_record : Ty-F Ty → List (List ℕ × Ty)
fields_in_record (Ty-F.Rec fs) = fs
fields_in_record _ = []

abbrev pub content_in_union : ℕ → Ty-F Ty → Option Ty
content_in_union n (Ty-F.Uni tags) = tag_type tags n
content_in_union n _ = None

abbrev pub element_of : Option Ty → Option Ty
element_of None = None
element_of (Some ty) = element_in (out-Ty ty)

abbrev pub item_of : Option Ty → Option Ty
item_of None = None
item_of (Some ty) = item_in_stream (out-Ty ty)

abbrev pub fields_of : Option Ty → List (List ℕ × Ty)
fields_of None = []
fields_of (Some ty) = fields_in_record (out-Ty ty)

abbrev pub content_of : ℕ → Option Ty → Option Ty
content_of n None = None
content_of n (Some ty) = content_in_union n (out-Ty ty)

-- the type of the part at a place: that of all parts, or that of the field there
abbrev pub type_at : Option Ty → List (List ℕ × Ty) → ℕ → Option Ty
type_at None fs i = option_map (λ f. f.1) (slice_get fs i)
type_at (Some ty) fs i = Some ty

-- the place of what has another form of its own, or that of what is inside
abbrev pub unless_own : Bool → ℕ → Option ℕ → Option ℕ
unless_own own k inside = if own then inside else Some k

-- The leftmost part whose own form is not that of its type, whatever the parts inside it are: how long
-- the text is from its first byte on, which is k for the whole.
abbrev mutual
  pub misfit : Form → Option Ty → ℕ → Option ℕ
  misfit form.error ty k = None
  misfit (form.error_because c) ty k = None
  misfit (form.integer z) ty k = unless_own (asks is_int ty) k None
  misfit (form.boolean b) ty k = unless_own (asks is_bool ty) k None
  misfit (form.character c) ty k = unless_own (asks is_char ty) k None
  misfit (form.characters cs) ty k = unless_own (asks is_text ty) k None
  misfit form.nil ty k = unless_own (asks is_null ty) k None
  misfit (form.array lo ps) ty k = unless_own (asks is_array ty) k (part_misfit ps (element_of ty) [] 0)
  misfit (form.stream ps) ty k = unless_own (asks is_stream ty) k (part_misfit ps (item_of ty) [] 0)
  misfit (form.fields ps) ty k = unless_own (asks (is_record (count ps)) ty) k (part_misfit ps None (fields_of ty) 0)
  misfit (form.union n j f) ty k = unless_own (asks (is_union n) ty) k (misfit f (content_of n ty) j)

  pub part_misfit : Parts → Option Ty → List (List ℕ × Ty) → ℕ → Option ℕ
  part_misfit none ty fs i = None
  part_misfit (part k f ps) ty fs i = or_else (misfit f (type_at ty fs i) k) (part_misfit ps ty fs (i + 1))

-- ---- faults

-- The text is a value text, and past a limit: so is every form that it spells.
pub record PastLimits (bytes : List ℕ) : Type 0 where
  pub spelled : IsValueText bytes
  pub past : (f : Form) → SpellsForm bytes f → is_within f 64 ≡ false

-- The text is a value text within the limits, and the leftmost part of another form than that of its
-- type begins at byte k: so it is in every form that the text spells.
pub record MisfitAt (bytes : List ℕ) (ty : Ty) (k : ℕ) : Type 0 where
  pub spelled : IsValueText bytes
  pub within : (f : Form) → SpellsForm bytes f → is_within f 64 ≡ true
  pub place : (f : Form) → SpellsForm bytes f → (left : ℕ) × (misfit f (Some ty) (length (past_blanks bytes)) ≡ Some left) × (k ≡ length bytes - left)

-- what a fault says
abbrev pub IsCause : List ℕ → Ty → ValueFault → Type 0
IsCause bytes ty (faults.BadSpelling k) = FirstBad bytes k
IsCause bytes ty (faults.WrongShape k) = MisfitAt bytes ty k
IsCause bytes ty faults.TooLarge = PastLimits bytes
IsCause bytes ty faults.NoMemory = Unit {0}

-- what it says of a value text
abbrev pub Explains : List ℕ → Ty → ValueFault → Type 0
Explains bytes ty (faults.BadSpelling k) = ⊥
Explains bytes ty (faults.WrongShape k) = MisfitAt bytes ty k
Explains bytes ty faults.TooLarge = PastLimits bytes
Explains bytes ty faults.NoMemory = ⊥

-- The text is a value text within the limits, each part of the form of its type: so it is in every form
-- that the text spells. No text with a fault is.
pub record IsOfType (bytes : List ℕ) (ty : Ty) : Type 0 where
  pub spelled : IsValueText bytes
  pub within : (f : Form) → SpellsForm bytes f → is_within f 64 ≡ true
  pub fits : (f : Form) → SpellsForm bytes f → misfit f (Some ty) (length (past_blanks bytes)) ≡ None
