-- Value text, whatever its type: what a text may be a value of some type by.
--
--   value = "error" ["(" cause ")"] | ["-"] digits | "T" | "F" | character | text | "nil"
--         | "[" ["-"] digits ":" {value} "]" | "{" {value} "}" | "<" {value} ">"
--         | "(" digits ":" value ")"
--
-- As in Grammar, a phrase is said of the text s from its first token on and of the text r behind its
-- last one; blanks may stand before and after every token.
use Rattle.std.specs.Prelude.{◌≡◌, ◌<◌, ◌≤◌, ◌+◌, ℕ, ℤ, Bool, true, false, List, [], ◌∷◌, ◌++◌, length, take, codes}
use Rattle.flow_value.specs.declared.cause.Cause.{Cause}
use Rattle.value_text.specs.Tokens.{past_blanks}
use Rattle.value_text.specs.Grammar.{Sign, Word, Number, Integer, Item, Because}

-- The form of a value: its alternative, with its numbers, its characters and the forms of its parts.
-- With each part stands the length of the text from its first byte on, which says its place.
mutual
  pub data Form : Type 0 where
    error : Form
    error_because : Cause → Form
    integer : ℤ → Form
    boolean : Bool → Form
    character : ℕ → Form
    characters : List ℕ → Form
    nil : Form
    array : ℤ → Parts → Form
    stream : Parts → Form
    fields : Parts → Form
    union : ℕ → ℕ → Form → Form

  pub data Parts : Type 0 where
    none : Parts
    part : ℕ → Form → Parts → Parts

abbrev pub bool_word : Bool → List ℕ
bool_word true = codes "T"
bool_word false = codes "F"

-- the items of a text up to its quote
abbrev pub Items : List ℕ → List ℕ → List ℕ → Type 0
Items [] s r = Sign 34 s r
Items (c ∷ cs) s r = (t : List ℕ) × Item 34 c s t × Items cs t r

-- no "(" and cause stands here
abbrev pub NoCause : List ℕ → Type 0
NoCause s = (c : Cause) (t : List ℕ) → Because c s t → ⊥

abbrev mutual
  pub Spells : Form → List ℕ → List ℕ → Type 0
  Spells error s r = Word (codes "error") s r × NoCause r
  Spells (error_because c) s r = (a b : List ℕ) × Word (codes "error") s a × Because c a b × Sign 41 (past_blanks b) r
  Spells (integer z) s r = Integer z s r
  Spells (boolean b) s r = Word (bool_word b) s r
  Spells (character c) s r = (a b : List ℕ) × Sign 39 s a × Item 39 c a b × Sign 39 b r
  Spells (characters cs) s r = (a : List ℕ) × Sign 34 s a × Items cs a r
  Spells nil s r = Word (codes "nil") s r
  Spells (array lo ps) s r = (a b c : List ℕ) × Sign 91 s a × Integer lo (past_blanks a) b × Sign 58 (past_blanks b) c × SpellsParts ps 93 (past_blanks c) r
  Spells (stream ps) s r = (a : List ℕ) × Sign 123 s a × SpellsParts ps 125 (past_blanks a) r
  Spells (fields ps) s r = (a : List ℕ) × Sign 60 s a × SpellsParts ps 62 (past_blanks a) r
  Spells (union n k f) s r = (a b c d : List ℕ) × Sign 40 s a × Number n (past_blanks a) b × Sign 58 (past_blanks b) c × (k ≡ length (past_blanks c)) × Spells f (past_blanks c) d × Sign 41 (past_blanks d) r

  -- parts up to the closing sign
  pub SpellsParts : Parts → ℕ → List ℕ → List ℕ → Type 0
  SpellsParts none close s r = Sign close s r
  SpellsParts (part k f ps) close s r = (t : List ℕ) × (k ≡ length s) × Spells f s t × SpellsParts ps close (past_blanks t) r

-- The text spells a value of this form.
pub record SpellsForm (text : List ℕ) (f : Form) : Type 0 where
  pub rest : List ℕ
  pub spelled : Spells f (past_blanks text) rest
  pub ended : past_blanks rest ≡ []

abbrev pub IsValueText : List ℕ → Type 0
IsValueText text = (f : Form) × SpellsForm text f

-- The text is no value text, and k is the first byte at which no value text goes on, or the length:
-- some value text begins with the first k bytes, and none with one byte more.
pub record FirstBad (text : List ℕ) (k : ℕ) : Type 0 where
  pub within : k ≤ length text
  pub before : (s : List ℕ) × IsValueText (take k text ++ s)
  pub after : k < length text → (s : List ℕ) → IsValueText (take (k + 1) text ++ s) → ⊥
  pub whole : IsValueText text → ⊥
