-- What spells one token (manual M-146, lexical elements).
use Rattle.std.specs.Prelude.{◌≡◌, ◌<◌, ◌≤◌, ◌+◌, ℕ, Bool, true, false, not, ◌&&◌, nat_eq, nat_le, List, [], ◌∷◌, ◌++◌, length, take, Some}
use Rattle.std.specs.List.{list_all}
use Rattle.std.specs.Char.{is_ascii_alphabetic, is_ascii_digit}
use Rattle.sisal_lex.specs.Words.{beside}
use Rattle.sisal_lex.specs.Signs.{signs}
use Rattle.sisal_lex.specs.Quotes.{escaped, hex_digit, hex_code}
use Rattle.sisal_lex.specs.Tokens.{is_in_name, head_of}
use Rattle.sisal_lex.specs.declared.head.Head.{Head}
use Rattle.sisal_lex.specs.declared.head.Head.TheVariants as head
use Rattle.sisal_lex.specs.declared.head.Lexeme.{Lexeme}
use Rattle.sisal_lex.specs.declared.token.Sign.{Sign}

-- an item between two of `quote`: a printable byte other than it and `\`, or `\` and a letter, or `\x` and two hexadecimal digits
pub data IsItem (quote code : ℕ) (t : List ℕ) : Type 0 where
  itself : nat_eq code 92 ≡ false → (nat_le 32 code && nat_le code 126 && not (nat_eq code quote)) ≡ true → t ≡ code ∷ [] → IsItem quote code t
  letter : (b : ℕ) → nat_eq b 120 ≡ false → escaped b ≡ Some code → t ≡ 92 ∷ b ∷ [] → IsItem quote code t
  digits : (high low : ℕ) → hex_code (hex_digit high) (hex_digit low) ≡ Some code → t ≡ 92 ∷ 120 ∷ high ∷ low ∷ [] → IsItem quote code t

-- items of a text, one after another
pub data AreItems : List ℕ → Type 0 where
  no_item : AreItems []
  more_items : (code : ℕ) (t ts : List ℕ) → IsItem 34 code t → AreItems ts → AreItems (t ++ ts)

-- the bytes are one token
pub data IsToken (t : List ℕ) : Type 0 where
  word : (b : ℕ) (s : List ℕ) → t ≡ b ∷ s → is_ascii_alphabetic b ≡ true → list_all is_in_name s ≡ true → IsToken t
  number : (b : ℕ) (s : List ℕ) → t ≡ b ∷ s → is_ascii_digit b ≡ true → list_all is_ascii_digit s ≡ true → IsToken t
  character : (code : ℕ) (i : List ℕ) → IsItem 39 code i → t ≡ 39 ∷ (i ++ 39 ∷ []) → IsToken t
  text : (s : List ℕ) → AreItems s → t ≡ 34 ∷ (s ++ 34 ∷ []) → IsToken t
  sign : (x : Sign) → beside t signs ≡ Some x → IsToken t

-- What is taken at the head of a text is a token, and nothing longer at its place is one.
pub record IsLongest (b : ℕ) (s : List ℕ) (more : ℕ) : Type 0 where
  pub within : more ≤ length s
  pub token : IsToken (b ∷ take more s)
  pub longest : (n : ℕ) → more < n → n ≤ length s → IsToken (b ∷ take n s) → ⊥

abbrev pub AreLongest : Type 0
AreLongest = (line b : ℕ) (s : List ℕ) (x : Lexeme) (more : ℕ) → head_of line b s ≡ head.Found x more → IsLongest b s more
