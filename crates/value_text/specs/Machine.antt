-- The machine that looks for the first byte at which no value text goes on: where a byte leads, and
-- which texts may follow.
use Rattle.std.specs.Prelude.{◌≡◌, ◌<◌, ◌≤◌, ◌+◌, ℕ, ℤ, Bool, true, false, ◌&&◌, ◌||◌, ◌==◌, nat_lt, nat_le, if◌then◌else◌, List, [], ◌∷◌, ◌++◌, length, drop, slice_index, codes, Option, Some, None, ◌⊎◌}
use Rattle.std.specs.List.{list_all}
use Rattle.flow_value.specs.declared.cause.Cause.{Cause}
use Rattle.flow_value.specs.declared.cause.Cause.TheVariants as because
use Rattle.value_text.specs.Tokens.{past_blanks, ends_row, is_blank, is_digit, is_letter, is_plain, escape_of, hex_digit}
use Rattle.value_text.specs.Grammar.{Sign, Number, Integer, Item, Because}
use Rattle.value_text.specs.Forms.{Form, Parts, Spells, SpellsParts, Items, NoCause}
use Rattle.value_text.specs.declared.spelling.Enclosure.{Enclosure}
use Rattle.value_text.specs.declared.spelling.Enclosure.TheVariants as in_
use Rattle.value_text.specs.declared.spelling.Word.{Word}
use Rattle.value_text.specs.declared.spelling.Word.TheVariants as word
use Rattle.value_text.specs.declared.spelling.Number.{Number as Kind}
use Rattle.value_text.specs.declared.spelling.Number.TheVariants as number
use Rattle.value_text.specs.declared.spelling.Quoted.{Quoted}
use Rattle.value_text.specs.declared.spelling.Quoted.TheVariants as quoted
use Rattle.value_text.specs.declared.spelling.Mode.{Mode}
use Rattle.value_text.specs.declared.spelling.Mode.TheVariants as mode
use Rattle.value_text.specs.declared.spelling.Move.{Move}
use Rattle.value_text.specs.declared.spelling.Move.TheVariants as move

-- ---- where a byte leads

abbrev pub letters_of : Word → List ℕ
letters_of word.Error = codes "error"
letters_of word.Nil = codes "nil"
letters_of word.Yes = codes "T"
letters_of word.No = codes "F"
letters_of word.Overflow = codes "overflow"
letters_of word.Zero = codes "zero"
letters_of word.Bounds = codes "bounds"
letters_of word.Empty = codes "empty"
letters_of word.Size = codes "size"
letters_of word.Tag = codes "tag"
letters_of word.Explicit = codes "explicit"

unfoldable pub begin : ℕ → Move
begin c =
    if is_digit c then move.To (mode.Digits number.Integer)
    else (if c == 101 then move.To (mode.Word word.Error 1)
    else (if c == 110 then move.To (mode.Word word.Nil 1)
    else (if c == 84 then move.To (mode.Word word.Yes 1)
    else (if c == 70 then move.To (mode.Word word.No 1)
    else (if c == 45 then move.To (mode.Digit number.Integer)
    else (if c == 39 then move.To (mode.Item quoted.Character)
    else (if c == 34 then move.To (mode.Item quoted.Text)
    else (if c == 91 then move.Open in_.Array mode.Bound
    else (if c == 123 then move.Open in_.Stream mode.Ended
    else (if c == 60 then move.Open in_.Record mode.Ended
    else (if c == 40 then move.Open in_.Union (mode.Digit number.Tag)
    else move.Bad)))))))))))

abbrev pub closed_by : ℕ → ℕ → Move → Move
closed_by close c other = if c == close then move.Close else other

unfoldable pub go_on : Option Enclosure → ℕ → Move
go_on None c = move.Bad
go_on (Some in_.Union) c = closed_by 41 c move.Bad
go_on (Some in_.Array) c = closed_by 93 c (begin c)
go_on (Some in_.Stream) c = closed_by 125 c (begin c)
go_on (Some in_.Record) c = closed_by 62 c (begin c)

unfoldable pub ended : Option Enclosure → ℕ → Move
ended inside c = if is_blank c then move.To mode.Ended else go_on inside c

unfoldable pub behind_error : Option Enclosure → ℕ → Move
behind_error inside c = if is_blank c then move.To mode.ErrorEnded else (if c == 40 then move.To mode.Cause else go_on inside c)

unfoldable pub behind_cause : ℕ → Move
behind_cause c = if is_blank c then move.To mode.CauseEnded else (if c == 41 then move.To mode.Ended else move.Bad)

abbrev pub after_word : Word → Option Enclosure → ℕ → Move
after_word word.Error inside c = behind_error inside c
after_word word.Nil inside c = ended inside c
after_word word.Yes inside c = ended inside c
after_word word.No inside c = ended inside c
after_word word.Overflow inside c = behind_cause c
after_word word.Zero inside c = behind_cause c
after_word word.Bounds inside c = behind_cause c
after_word word.Empty inside c = behind_cause c
after_word word.Size inside c = behind_cause c
after_word word.Tag inside c = behind_cause c
after_word word.Explicit inside c = behind_cause c

unfoldable pub behind_word : Word → Option Enclosure → ℕ → Move
behind_word w inside c = if is_digit c || is_letter c then move.Bad else after_word w inside c

unfoldable pub in_word : Word → ℕ → Option Enclosure → ℕ → Move
in_word w k inside c =
    if nat_lt k (length (letters_of w))
    then (if slice_index (letters_of w) k == c then move.To (mode.Word w (k + 1)) else move.Bad)
    else behind_word w inside c

abbrev pub holds_many : Option Enclosure → Bool
holds_many None = false
holds_many (Some in_.Union) = false
holds_many (Some in_.Array) = true
holds_many (Some in_.Stream) = true
holds_many (Some in_.Record) = true

abbrev pub tag_behind_error : Option Enclosure → Move
tag_behind_error inside = if holds_many inside then move.Open in_.Union (mode.Digits number.Tag) else move.Bad

unfoldable pub cause : Option Enclosure → ℕ → Move
cause inside c =
    if is_digit c then tag_behind_error inside
    else (if c == 111 then move.To (mode.Word word.Overflow 1)
    else (if c == 122 then move.To (mode.Word word.Zero 1)
    else (if c == 98 then move.To (mode.Word word.Bounds 1)
    else (if c == 115 then move.To (mode.Word word.Size 1)
    else (if c == 116 then move.To (mode.Word word.Tag 1)
    else (if c == 101 then move.To mode.CauseE
    else move.Bad))))))

unfoldable pub cause_e : ℕ → Move
cause_e c = if c == 109 then move.To (mode.Word word.Empty 2) else (if c == 120 then move.To (mode.Word word.Explicit 2) else move.Bad)

abbrev pub after_colon : Kind → Mode
after_colon number.Tag = mode.Wanted
after_colon number.Integer = mode.Ended
after_colon number.Bound = mode.Ended

abbrev pub number_closed : Kind → Option Enclosure → ℕ → Move
number_closed number.Integer inside c = go_on inside c
number_closed number.Bound inside c = if c == 58 then move.To mode.Ended else move.Bad
number_closed number.Tag inside c = if c == 58 then move.To mode.Wanted else move.Bad

unfoldable pub behind_number : Kind → Option Enclosure → ℕ → Move
behind_number n inside c = if is_blank c then move.To (mode.NumberEnded n) else number_closed n inside c

unfoldable pub in_digits : Kind → Option Enclosure → ℕ → Move
in_digits n inside c = if is_digit c then move.To (mode.Digits n) else (if is_letter c then move.Bad else behind_number n inside c)

unfoldable pub in_bound : ℕ → Move
in_bound c = if is_digit c then move.To (mode.Digits number.Bound) else (if c == 45 then move.To (mode.Digit number.Bound) else move.Bad)

abbrev pub after_item : Quoted → Mode
after_item quoted.Character = mode.CharacterEnded
after_item quoted.Text = mode.Item quoted.Text

abbrev pub quote_of : Quoted → ℕ
quote_of quoted.Character = 39
quote_of quoted.Text = 34

unfoldable pub in_item : Quoted → ℕ → Move
in_item q c = if c == 92 then move.To (mode.Escape q) else (if is_plain (quote_of q) c then move.To (after_item q) else move.Bad)

unfoldable pub in_quotes : Quoted → ℕ → Move
in_quotes quoted.Character c = in_item quoted.Character c
in_quotes quoted.Text c = if c == 34 then move.To mode.Ended else in_item quoted.Text c

abbrev pub if_some : Option ℕ → Move → Move
if_some None m = move.Bad
if_some (Some x) m = m

unfoldable pub escaped : Quoted → ℕ → Move
escaped q c = if c == 120 then move.To (mode.High q) else if_some (escape_of c) (move.To (after_item q))

unfoldable pub high : Quoted → ℕ → Move
high q c = if nat_le 48 c && nat_le c 55 then move.To (mode.Low q) else move.Bad

unfoldable pub low : Quoted → ℕ → Move
low q c = if_some (hex_digit c) (move.To (after_item q))

unfoldable pub character_ended : ℕ → Move
character_ended c = if c == 39 then move.To mode.Ended else move.Bad

unfoldable pub in_digit : Kind → ℕ → Move
in_digit n c = if is_digit c then move.To (mode.Digits n) else move.Bad

abbrev pub past_blank : Mode → Option Enclosure → ℕ → Move
past_blank mode.Wanted inside c = begin c
past_blank mode.ErrorEnded inside c = behind_error inside c
past_blank mode.Cause inside c = cause inside c
past_blank mode.CauseEnded inside c = behind_cause c
past_blank (mode.Digit n) inside c = in_digit n c
past_blank mode.Bound inside c = in_bound c
past_blank (mode.NumberEnded n) inside c = behind_number n inside c
past_blank _ inside c = go_on inside c

abbrev pub between : Mode → Option Enclosure → ℕ → Move
between m inside c = if is_blank c then move.To m else past_blank m inside c

abbrev pub next : Mode → Option Enclosure → ℕ → Move
next (mode.Word w k) inside c = in_word w k inside c
next mode.CauseE inside c = cause_e c
next (mode.Digits n) inside c = in_digits n inside c
next (mode.Item q) inside c = in_quotes q c
next mode.CharacterEnded inside c = character_ended c
next (mode.Escape q) inside c = escaped q c
next (mode.High q) inside c = high q c
next (mode.Low q) inside c = low q c
next mode.Wanted inside c = between mode.Wanted inside c
next mode.Ended inside c = between mode.Ended inside c
next mode.ErrorEnded inside c = between mode.ErrorEnded inside c
next mode.Cause inside c = between mode.Cause inside c
next mode.CauseEnded inside c = between mode.CauseEnded inside c
next (mode.Digit n) inside c = between (mode.Digit n) inside c
next mode.Bound inside c = between mode.Bound inside c
next (mode.NumberEnded n) inside c = between (mode.NumberEnded n) inside c

abbrev pub may_end_in : Word → ℕ → Bool
may_end_in word.Error k = nat_le (length (letters_of word.Error)) k
may_end_in word.Nil k = nat_le (length (letters_of word.Nil)) k
may_end_in word.Yes k = nat_le (length (letters_of word.Yes)) k
may_end_in word.No k = nat_le (length (letters_of word.No)) k
may_end_in word.Overflow k = false
may_end_in word.Zero k = false
may_end_in word.Bounds k = false
may_end_in word.Empty k = false
may_end_in word.Size k = false
may_end_in word.Tag k = false
may_end_in word.Explicit k = false

abbrev pub may_end : Mode → Bool
may_end mode.Ended = true
may_end mode.ErrorEnded = true
may_end (mode.Word w k) = may_end_in w k
may_end (mode.Digits number.Integer) = true
may_end (mode.Digits number.Bound) = false
may_end (mode.Digits number.Tag) = false
may_end (mode.NumberEnded number.Integer) = true
may_end (mode.NumberEnded number.Bound) = false
may_end (mode.NumberEnded number.Tag) = false
may_end _ = false

-- ---- which texts may follow

abbrev pub innermost : List Enclosure → Option Enclosure
innermost [] = None
innermost (e ∷ nest) = Some e

abbrev pub is_closed : List Enclosure → Bool
is_closed [] = true
is_closed (e ∷ nest) = false

abbrev pub Leaves : Bool → List Enclosure → List Enclosure → Type 0
Leaves false old new = old ≡ []
Leaves true old new = (e : Enclosure) × (old ≡ e ∷ new)

-- This text, at whose front is no blank, closes what is open.
abbrev pub Closes : List Enclosure → List ℕ → Type 0
Closes [] s = s ≡ []
Closes (in_.Union ∷ nest) s = (r : List ℕ) × Sign 41 s r × Closes nest (past_blanks r)
Closes (in_.Array ∷ nest) s = (ps : Parts) × (r : List ℕ) × SpellsParts ps 93 s r × Closes nest (past_blanks r)
Closes (in_.Stream ∷ nest) s = (ps : Parts) × (r : List ℕ) × SpellsParts ps 125 s r × Closes nest (past_blanks r)
Closes (in_.Record ∷ nest) s = (ps : Parts) × (r : List ℕ) × SpellsParts ps 62 s r × Closes nest (past_blanks r)

-- a value, and what closes
abbrev pub Value : List Enclosure → List ℕ → Type 0
Value nest s = (f : Form) × (r : List ℕ) × Spells f s r × Closes nest (past_blanks r)

-- the parenthesis behind a cause
abbrev pub CauseCloses : List Enclosure → List ℕ → Type 0
CauseCloses nest s = (r : List ℕ) × Sign 41 s r × Closes nest (past_blanks r)

abbrev pub AfterError : List Enclosure → List ℕ → Type 0
AfterError nest s = ((c : Cause) × (b : List ℕ) × Because c s b × CauseCloses nest (past_blanks b)) ⊎ (NoCause s × Closes nest s)

abbrev pub AfterWord : Word → List Enclosure → List ℕ → Type 0
AfterWord word.Error nest s = AfterError nest (past_blanks s)
AfterWord word.Nil nest s = Closes nest (past_blanks s)
AfterWord word.Yes nest s = Closes nest (past_blanks s)
AfterWord word.No nest s = Closes nest (past_blanks s)
AfterWord word.Overflow nest s = CauseCloses nest (past_blanks s)
AfterWord word.Zero nest s = CauseCloses nest (past_blanks s)
AfterWord word.Bounds nest s = CauseCloses nest (past_blanks s)
AfterWord word.Empty nest s = CauseCloses nest (past_blanks s)
AfterWord word.Size nest s = CauseCloses nest (past_blanks s)
AfterWord word.Tag nest s = CauseCloses nest (past_blanks s)
AfterWord word.Explicit nest s = CauseCloses nest (past_blanks s)

abbrev pub AfterNumber : Kind → List Enclosure → List ℕ → Type 0
AfterNumber number.Integer nest s = Closes nest s
AfterNumber number.Bound nest s = (c : List ℕ) × Sign 58 s c × Closes nest (past_blanks c)
AfterNumber number.Tag nest s = (c : List ℕ) × Sign 58 s c × Value nest (past_blanks c)

-- the word of a cause
abbrev pub word_of : Cause → Word
word_of because.Overflow = word.Overflow
word_of because.Zero = word.Zero
word_of because.Bounds = word.Bounds
word_of because.Empty = word.Empty
word_of because.Size = word.Size
word_of because.Tag = word.Tag
word_of because.Explicit = word.Explicit

-- letters, behind which a row ends
pub record WordRest (w : Word) (letters : List ℕ) (nest : List Enclosure) (s : List ℕ) : Type 0 where
  pub rest : List ℕ
  pub spelled : s ≡ letters ++ rest
  pub alone : ends_row rest ≡ true
  pub after : AfterWord w nest rest

-- digits, behind which a row ends
pub record DigitsRest (n : Kind) (nest : List Enclosure) (s : List ℕ) : Type 0 where
  pub row : List ℕ
  pub rest : List ℕ
  pub spelled : s ≡ row ++ rest
  pub digits : list_all is_digit row ≡ true
  pub alone : ends_row rest ≡ true
  pub after : AfterNumber n nest (past_blanks rest)

abbrev pub NumberRest : Kind → List Enclosure → List ℕ → Type 0
NumberRest n nest s = (k : ℕ) × (b : List ℕ) × Number k s b × AfterNumber n nest (past_blanks b)

abbrev pub BoundRest : List Enclosure → List ℕ → Type 0
BoundRest nest s = (z : ℤ) × (b : List ℕ) × Integer z s b × AfterNumber number.Bound nest (past_blanks b)

abbrev pub CauseRest : List Enclosure → List ℕ → Type 0
CauseRest nest s = ((c : Cause) × WordRest (word_of c) (letters_of (word_of c)) nest s) ⊎ ((holds_many (innermost nest) ≡ true) × NumberRest number.Tag (in_.Union ∷ nest) s)

-- what follows an item
abbrev pub AfterItem : Quoted → List Enclosure → List ℕ → Type 0
AfterItem quoted.Character nest s = (r : List ℕ) × Sign 39 s r × Closes nest (past_blanks r)
AfterItem quoted.Text nest s = (cs : List ℕ) × (r : List ℕ) × Items cs s r × Closes nest (past_blanks r)

abbrev pub ItemRest : Quoted → List Enclosure → List ℕ → Type 0
ItemRest q nest s = (c : ℕ) × (b : List ℕ) × Item (quote_of q) c s b × AfterItem q nest b

abbrev pub QuotedRest : Quoted → List Enclosure → List ℕ → Type 0
QuotedRest quoted.Character nest s = ItemRest quoted.Character nest s
QuotedRest quoted.Text nest s = AfterItem quoted.Text nest s

-- the code of a high digit was read
abbrev pub LowRest : Quoted → List Enclosure → List ℕ → Type 0
LowRest q nest s = (h : ℕ) × ((nat_le 48 h && nat_le h 55) ≡ true) × ItemRest q nest (92 ∷ 120 ∷ h ∷ s)

-- This text may follow.
abbrev pub Rest : Mode → List Enclosure → List ℕ → Type 0
Rest mode.Wanted nest s = Value nest (past_blanks s)
Rest mode.Ended nest s = Closes nest (past_blanks s)
Rest (mode.Word w k) nest s = WordRest w (drop k (letters_of w)) nest s
Rest mode.ErrorEnded nest s = AfterError nest (past_blanks s)
Rest mode.Cause nest s = CauseRest nest (past_blanks s)
Rest mode.CauseE nest s = WordRest word.Empty (drop 1 (letters_of word.Empty)) nest s ⊎ WordRest word.Explicit (drop 1 (letters_of word.Explicit)) nest s
Rest mode.CauseEnded nest s = CauseCloses nest (past_blanks s)
Rest (mode.Digit n) nest s = NumberRest n nest (past_blanks s)
Rest (mode.Digits n) nest s = DigitsRest n nest s
Rest mode.Bound nest s = BoundRest nest (past_blanks s)
Rest (mode.NumberEnded n) nest s = AfterNumber n nest (past_blanks s)
Rest (mode.Item q) nest s = QuotedRest q nest s
Rest mode.CharacterEnded nest s = AfterItem quoted.Character nest s
Rest (mode.Escape q) nest s = ItemRest q nest (92 ∷ s)
Rest (mode.High q) nest s = ItemRest q nest (92 ∷ 120 ∷ s)
Rest (mode.Low q) nest s = LowRest q nest s

-- This text may follow the move.
abbrev pub Goes : Move → List Enclosure → List ℕ → Type 0
Goes (move.To m) nest s = Rest m nest s
Goes (move.Open e m) nest s = Rest m (e ∷ nest) s
Goes move.Close [] s = ⊥
Goes move.Close (e ∷ nest) s = Closes nest (past_blanks s)
Goes move.Bad nest s = ⊥

-- No value text goes on with this byte.
abbrev pub Refuses : Mode → List Enclosure → ℕ → Type 0
Refuses m nest c = (s : List ℕ) → Rest m nest (c ∷ s) → ⊥

-- By this byte, what may follow is what may follow there.
pub record LeadsOn (m : Mode) (nest : List Enclosure) (c : ℕ) (reached : Mode) (opened : List Enclosure) : Type 0 where
  pub only : (s : List ℕ) → Rest m nest (c ∷ s) → Rest reached opened s
  pub sound : (s : List ℕ) → Rest reached opened s → Rest m nest (c ∷ s)
