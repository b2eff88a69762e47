-- The tokens of a SISAL text (manual M-146, lexical elements), taken from left to right, each as long as it can be.
use Rattle.std.specs.Prelude.{ℕ, zero, suc, ◌+◌, ◌-◌, ◌*◌, Bool, not, ◌&&◌, ◌||◌, nat_eq, nat_le, nat_lt, List, [], ◌∷◌, map, take, length, fold, Option, Some, None, Result, Ok, Err, if◌then◌else◌, ℤ, pos}
use Rattle.std.specs.List.{prefix_len}
use Rattle.std.specs.Char.{is_ascii_alphabetic, is_ascii_digit, to_ascii_lowercase}
use Rattle.sisal_lex.specs.Words.{words, beside}
use Rattle.sisal_lex.specs.Signs.{long_sign, short_sign}
use Rattle.sisal_lex.specs.Quotes.{character, items}
use Rattle.sisal_lex.specs.Names.{Lexed, with_names}
use Rattle.sisal_lex.specs.declared.head.Head.{Head}
use Rattle.sisal_lex.specs.declared.head.Head.TheVariants as head
use Rattle.sisal_lex.specs.declared.head.Lexeme.{Lexeme}
use Rattle.sisal_lex.specs.declared.head.Lexeme.TheVariants as lexeme
use Rattle.sisal_lex.specs.declared.token.Kind.{Kind}
use Rattle.sisal_lex.specs.declared.token.Kind.TheVariants as kind
use Rattle.sisal_lex.specs.declared.token.Tokens.{Tokens}
use Rattle.sisal_lex.specs.declared.fault.LexFault.{LexFault}
use Rattle.sisal_lex.specs.declared.fault.LexFault.TheVariants as fault

-- the classes of bytes: blanks are tab, line feed, carriage return and space; 95 is `_`
abbrev pub is_blank : ℕ → Bool
is_blank b = nat_eq b 9 || nat_eq b 10 || nat_eq b 13 || nat_eq b 32

abbrev pub is_in_line : ℕ → Bool
is_in_line b = not (nat_eq b 10)

abbrev pub is_in_name : ℕ → Bool
is_in_name b = is_ascii_alphabetic b || is_ascii_digit b || nat_eq b 95

-- the line after a byte
abbrev pub line_after : ℕ → ℕ → ℕ
line_after line b = if nat_eq b 10 then line + 1 else line

-- a name is a letter with all letters, digits and `_` that follow, in small letters; a reserved word is no name
abbrev pub word_or_name : List ℕ → Lexeme
word_or_name name = elim (beside name words) [ Some w ↦ lexeme.Plain (kind.Word w) | None ↦ lexeme.Named name ]

abbrev pub name_at : ℕ → List ℕ → Head
name_at b s =
    let more = prefix_len is_in_name s in
    head.Found (word_or_name (map to_ascii_lowercase (b ∷ take more s))) more

-- a number is a row of digits
abbrev pub number_value : List ℕ → ℕ
number_value digits = fold (λ n d. 10 * n + (d - 48)) 0 digits

abbrev pub number_in_range : ℕ → Option ℤ
number_in_range n = if nat_le n 9223372036854775807 then Some (pos n) else None

abbrev pub number_at : ℕ → ℕ → List ℕ → Head
number_at line b s =
    let more = prefix_len is_ascii_digit s in
    elim (number_in_range (number_value (b ∷ take more s))) [
      | Some n ↦ head.Found (lexeme.Plain (kind.Number n)) more
      | None ↦ head.Fault (fault.NumberTooWide line)
    ]

-- a character or a text
abbrev pub character_at : ℕ → List ℕ → Head
character_at line s = elim (character s) [
  | Some t ↦ head.Found (lexeme.Plain (kind.Letter t.code)) t.bytes
  | None ↦ head.Fault (fault.OpenText line)
]

abbrev pub text_at : ℕ → List ℕ → Head
text_at line s = elim (items s 0) [
  | Some t ↦ head.Found (lexeme.Plain (kind.Quoted t.codes)) t.bytes
  | None ↦ head.Fault (fault.OpenText line)
]

-- a sign has one byte or two, and the longer one is taken
abbrev pub sign_at : ℕ → ℕ → List ℕ → Head
sign_at line b s =
    elim (long_sign b s) [
      | Some x ↦ head.Found (lexeme.Plain (kind.Sign x)) 1
      | None ↦ elim (short_sign b) [
        | Some x ↦ head.Found (lexeme.Plain (kind.Sign x)) 0
        | None ↦ head.Fault (fault.BadByte line)
      ]
    ]

-- what stands at the head of a text whose first byte is b: a blank, a comment, a token or a fault.
-- 37 is `%`, 39 is `'` and 34 is `"`.
abbrev pub head_of : ℕ → ℕ → List ℕ → Head
head_of line b s =
    if is_blank b then head.Gap 0
    else (if nat_eq b 37 then head.Gap (prefix_len is_in_line s)
    else (if is_ascii_alphabetic b then name_at b s
    else (if is_ascii_digit b then number_at line b s
    else (if nat_eq b 39 then character_at line s
    else (if nat_eq b 34 then text_at line s
    else sign_at line b s)))))

-- the tokens after the first one
abbrev pub followed : {E : Type 0} → Lexed → Result (List Lexed) E → Result (List Lexed) E
followed l (Ok ls) = Ok (l ∷ ls)
followed l (Err e) = Err e

-- what stands at the head, and then what stands after its bytes
abbrev pub in_turn : Head → ℕ → (ℕ → Result (List Lexed) LexFault) → Result (List Lexed) LexFault
in_turn (head.Gap more) line after = after more
in_turn (head.Found x more) line after = followed (record { lexeme = x; line = line }) (after more)
in_turn (head.Fault e) line after = Err e

-- The tokens of a text that begins on a line, of which the first `left` bytes belong to what was taken before.
-- A token's line is that of its first byte: one more for each line feed before it.
abbrev pub lexed : List ℕ → ℕ → ℕ → Result (List Lexed) LexFault
lexed [] line left = Ok []
lexed (b ∷ s) line (suc left) = lexed s (line_after line b) left
lexed (b ∷ s) line zero = in_turn (head_of line b s) line (lexed s (line_after line b))

-- the tokens and the names, or the first fault. A text of more than 4,194,304 bytes is too long.
abbrev pub named : Result (List Lexed) LexFault → Result Tokens LexFault
named (Ok ls) = Ok (with_names ls)
named (Err e) = Err e

abbrev pub tokens_of : List ℕ → Result Tokens LexFault
tokens_of text = if nat_lt 4194304 (length text) then Err fault.TooLong else named (lexed text 1 0)
