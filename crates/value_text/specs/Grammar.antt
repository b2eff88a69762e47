-- Value text: the grammar of a value at a type.
--
--   value = "error" ["(" cause ")"] | ["-"] digits | "T" | "F" | character | text | "nil"
--         | "[" ["-"] digits ":" {value} "]" | "{" {value} "}" | "<" {value} ">"
--         | "(" digits ":" value ")"
--
-- A phrase is said of the text s from its first token on and of the text r behind its last one. Blanks
-- may stand before and after every token.
use Rattle.std.specs.Prelude.{◌≡◌, ◌≢◌, ◌<◌, ◌≤◌, ◌+◌, ◌-◌, ◌*◌, ◌^◌, ℕ, zero, suc, ℤ, pos, neg_ℤ, Bool, true, false, List, [], ◌∷◌, ◌++◌, length, Some, slice_get, codes, nat_le, ◌&&◌}
use Rattle.std.specs.List.{list_all}
use Rattle.flow_value.specs.Bounds.{bounded, is_few, is_within}
use Rattle.flow_value.specs.declared.cause.Cause.{Cause}
use Rattle.flow_value.specs.declared.cause.Cause.TheVariants as cause
use Rattle.flow_value.specs.declared.value.Val.{Val}
use Rattle.flow_value.specs.declared.value.Val.TheVariants as val
use Rattle.flow_value.specs.declared.ty.Ty.{Ty}
use Rattle.flow_value.specs.declared.ty.Ty.TheVariants as type
use Rattle.value_text.specs.Tokens.{past_blanks, ends_row, is_digit, is_plain, escape_of, hex_digit}
use Rattle.flow_value.specs.Scalar.{fits_64}
use Rattle.value_text.specs.Reading.{has_room, no_gap}

-- ---- tokens

-- the token of one byte
abbrev pub Sign : ℕ → List ℕ → List ℕ → Type 0
Sign c s r = s ≡ c ∷ r

-- a word: two tokens of letters or digits have a blank between them
pub record Word (w s r : List ℕ) : Type 0 where
  pub spelled : s ≡ w ++ r
  pub alone : ends_row r ≡ true

-- the number of a row of digits behind n
abbrev pub row_value : ℕ → List ℕ → ℕ
row_value n [] = n
row_value n (d ∷ ds) = row_value (n * 10 + (d - 48)) ds

-- a row of digits, leading zeros among them
pub record Number (n : ℕ) (s r : List ℕ) : Type 0 where
  pub first : ℕ
  pub more : List ℕ
  pub spelled : s ≡ first ∷ more ++ r
  pub digits : list_all is_digit (first ∷ more) ≡ true
  pub value : row_value 0 (first ∷ more) ≡ n
  pub alone : ends_row r ≡ true

pub data Integer (z : ℤ) (s r : List ℕ) : Type 0 where
  plain : (n : ℕ) → Number n s r → z ≡ pos n → Integer z s r
  minus : (n : ℕ) (t : List ℕ) → Sign 45 s t → Number n (past_blanks t) r → z ≡ neg_ℤ (pos n) → Integer z s r

-- an item between quotes: a byte from 32 to 126 other than the backslash and the closing quote, an
-- escape, or a code of two hexadecimal digits of value at most 7f
pub data Item (quote c : ℕ) (s r : List ℕ) : Type 0 where
  itself : is_plain quote c ≡ true → s ≡ c ∷ r → Item quote c s r
  escaped : (d : ℕ) → escape_of d ≡ Some c → s ≡ 92 ∷ d ∷ r → Item quote c s r
  coded : (high low n : ℕ) → (nat_le 48 high && nat_le high 55) ≡ true → hex_digit low ≡ Some n → c ≡ (high - 48) * 16 + n → s ≡ 92 ∷ 120 ∷ high ∷ low ∷ r → Item quote c s r

abbrev pub cause_word : Cause → List ℕ
cause_word cause.Overflow = codes "overflow"
cause_word cause.Zero = codes "zero"
cause_word cause.Bounds = codes "bounds"
cause_word cause.Empty = codes "empty"
cause_word cause.Size = codes "size"
cause_word cause.Tag = codes "tag"
cause_word cause.Explicit = codes "explicit"

-- ---- values

-- what spells a value at a type
abbrev pub Spelling : Type 1
Spelling = Ty → List ℕ → Val → List ℕ → Type 0

-- "(" and a cause, which belong to an `error` before them
pub record Because (c : Cause) (s r : List ℕ) : Type 0 where
  pub inner : List ℕ
  pub opened : Sign 40 (past_blanks s) inner
  pub word : Word (cause_word c) (past_blanks inner) r

-- values up to the closing token
abbrev pub Values : (List ℕ → List ℕ) → (List ℕ → Val → List ℕ → Type 0) → ℕ → List ℕ → List Val → List ℕ → Type 0
Values gap Part close s [] r = Sign close s r
Values gap Part close s (v ∷ vs) r = (t : List ℕ) × Part s v t × Values gap Part close (gap t) vs r

-- a value for each field
abbrev pub FieldValues : Spelling → List (List ℕ × Ty) → List ℕ → List Val → List ℕ → Type 0
FieldValues Part [] s [] r = s ≡ r
FieldValues Part [] s (v ∷ vs) r = ⊥
FieldValues Part (f ∷ fs) s [] r = ⊥
FieldValues Part (f ∷ fs) s (v ∷ vs) r = (t : List ℕ) × Part f.1 (past_blanks s) v t × FieldValues Part fs t vs r

-- the item of a character
abbrev pub CharacterItem : List ℕ → Val → List ℕ → Type 0
CharacterItem s v r = (c : ℕ) × (v ≡ val.Char c) × Item 34 c s r

-- the alternatives of a value at a type, where its parts are spelled by Part and so many levels are below
pub data Alternative (below : ℕ) (Part : Spelling) (ty : Ty) (s : List ℕ) (v : Val) (r : List ℕ) : Type 0 where
  error : Word (codes "error") s r → ((c : Cause) (t : List ℕ) → Because c r t → ⊥) → v ≡ val.Err cause.Explicit → Alternative below Part ty s v r
  error_because : (c : Cause) (a b : List ℕ) → Word (codes "error") s a → Because c a b → Sign 41 (past_blanks b) r → v ≡ val.Err c → Alternative below Part ty s v r
  integer : (z : ℤ) → ty ≡ type.Int → Integer z s r → fits_64 z ≡ true → v ≡ val.Int z → Alternative below Part ty s v r
  yes : ty ≡ type.Bool → Word (codes "T") s r → v ≡ val.Bool true → Alternative below Part ty s v r
  no : ty ≡ type.Bool → Word (codes "F") s r → v ≡ val.Bool false → Alternative below Part ty s v r
  character : (c : ℕ) (a b : List ℕ) → ty ≡ type.Char → Sign 39 s a → Item 39 c a b → Sign 39 b r → v ≡ val.Char c → Alternative below Part ty s v r
  nil : ty ≡ type.Null → Word (codes "nil") s r → v ≡ val.Null → Alternative below Part ty s v r
  array : (element : Ty) (lo : ℤ) (vs : List Val) (a b c : List ℕ) → ty ≡ type.Arr element → Sign 91 s a → Integer lo (past_blanks a) b → fits_64 lo ≡ true → Sign 58 (past_blanks b) c → Values past_blanks (Part element) 93 (past_blanks c) vs r → is_within lo (length vs) ≡ true → v ≡ val.Arr (bounded lo vs) → Alternative below Part ty s v r
  text : (vs : List Val) (a : List ℕ) → ty ≡ type.Arr type.Char → Sign 34 s a → Values no_gap CharacterItem 34 a vs r → is_within (pos 1) (length vs) ≡ true → has_room below vs ≡ true → v ≡ val.Arr (bounded (pos 1) vs) → Alternative below Part ty s v r
  stream : (element : Ty) (vs : List Val) (a : List ℕ) → ty ≡ type.Stream element → Sign 123 s a → Values past_blanks (Part element) 125 (past_blanks a) vs r → length vs ≤ 4194304 → v ≡ val.Stream vs → Alternative below Part ty s v r
  fields : (fs : List (List ℕ × Ty)) (vs : List Val) (a b : List ℕ) → ty ≡ type.Rec fs → Sign 60 s a → FieldValues Part fs a vs b → is_few (length fs) ≡ true → Sign 62 (past_blanks b) r → v ≡ val.Rec vs → Alternative below Part ty s v r
  union : (tags : List (List ℕ × Ty)) (n : ℕ) (tag : List ℕ × Ty) (w : Val) (a b c d : List ℕ) → ty ≡ type.Uni tags → Sign 40 s a → Number n (past_blanks a) b → n < 2 ^ 32 → Sign 58 (past_blanks b) c → slice_get tags n ≡ Some tag → Part tag.1 (past_blanks c) w d → Sign 41 (past_blanks d) r → v ≡ val.Uni n w → Alternative below Part ty s v r

-- a part, where so many levels are left
abbrev pub PartAt : ℕ → Spelling
PartAt zero ty s v r = ⊥
PartAt (suc n) ty s v r = Alternative n (PartAt n) ty s v r

-- The text spells the value at the type. A value has at most 64 levels: an aggregate is a level above its
-- parts.
pub record reads_value (text : List ℕ) (ty : Ty) (v : Val) : Type 0 where
  pub rest : List ℕ
  pub spelled : PartAt 64 ty (past_blanks text) v rest
  pub ended : past_blanks rest ≡ []
