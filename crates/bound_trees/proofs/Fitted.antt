-- A number that stands at the head of a text fits 64 bits.
use Rattle.std.proofs.Common.{◌≡◌, ◌≤◌, ℕ, suc, Bool, true, false, List, ◌∷◌, Option, Some, None, map, take, refl, arith, if◌then◌else◌, nat_le, nat_eq, pos}
use Rattle.std.proofs.lemmas.Bool.Decides.{nat_tests}
use Rattle.std.specs.Prelude.{nat_lt}
use Rattle.std.specs.List.{prefix_len}
use Rattle.std.specs.Char.{is_ascii_alphabetic, is_ascii_digit, to_ascii_lowercase}
use Rattle.flow_value.specs.Scalar.{fits_64}
use Rattle.sisal_lex.specs.declared.head.Head.{Head}
use Rattle.sisal_lex.specs.declared.head.Head.TheVariants as head
use Rattle.sisal_lex.specs.declared.head.Lexeme.TheVariants as lexeme
use Rattle.sisal_lex.specs.declared.fault.LexFault.TheVariants as fault
use Rattle.sisal_lex.specs.declared.token.Kind.TheVariants as kind
use Rattle.sisal_lex.specs.declared.token.Sign.{Sign}
use Rattle.sisal_lex.specs.declared.token.Word.{Word}
use Rattle.sisal_lex.specs.declared.quotes.Item.{Item}
use Rattle.sisal_lex.specs.declared.quotes.Codes.{Codes}
use Rattle.sisal_lex.specs.Words.{words, beside}
use Rattle.sisal_lex.specs.Signs.{long_sign, short_sign}
use Rattle.sisal_lex.specs.Quotes.{character, items}
use Rattle.sisal_lex.specs.Tokens.{is_blank, is_in_name, number_value, head_of, name_at, number_at, character_at, text_at, sign_at}

abbrev pub FitsHead : Head → Type 0
FitsHead (head.Found (lexeme.Plain (kind.Number n)) more) = fits_64 n ≡ true
FitsHead _ = Unit {0}

below : (n m : ℕ) → nat_le n m ≡ true → nat_lt n (suc m) ≡ true
below n m h = grind (arith, nat_tests)

-- a text has at most so many bytes
pub not_more : (m n : ℕ) → nat_lt m n ≡ false → n ≤ m
not_more m n h = grind (arith, nat_tests)

if_fits : (t : Bool) (x y : Head) → FitsHead x → FitsHead y → FitsHead (if t then x else y)
if_fits true x y h k = h
if_fits false x y h k = k

name_fits : (b : ℕ) (s : List ℕ) → FitsHead (name_at b s)
name_fits b s = by (beside name words)
  where
    name : List ℕ
    name = map to_ascii_lowercase (b ∷ take (prefix_len is_in_name s) s)

    by : (o : Option Word) → FitsHead (head.Found (elim o [ Some w ↦ lexeme.Plain (kind.Word w) | None ↦ lexeme.Named name ]) (prefix_len is_in_name s))
    by (Some w) = tt
    by None = tt

number_fits : (line b : ℕ) (s : List ℕ) → FitsHead (number_at line b s)
number_fits line b s = by (number_value (b ∷ take (prefix_len is_ascii_digit s) s)) (nat_le (number_value (b ∷ take (prefix_len is_ascii_digit s) s)) 9223372036854775807) refl
  where
    by : (value : ℕ) (t : Bool) → nat_le value 9223372036854775807 ≡ t → FitsHead (elim (if t then Some (pos value) else None) [
      | Some n ↦ head.Found (lexeme.Plain (kind.Number n)) (prefix_len is_ascii_digit s)
      | None ↦ head.Fault (fault.NumberTooWide line)
    ])
    by value true e = below value 9223372036854775807 e
    by value false e = tt

character_fits : (line : ℕ) (s : List ℕ) → FitsHead (character_at line s)
character_fits line s = by (character s)
  where
    by : (o : Option Item) → FitsHead (elim o [ Some t ↦ head.Found (lexeme.Plain (kind.Letter t.code)) t.bytes | None ↦ head.Fault (fault.OpenText line) ])
    by None = tt
    by (Some t) = tt

text_fits : (line : ℕ) (s : List ℕ) → FitsHead (text_at line s)
text_fits line s = by (items s 0)
  where
    by : (o : Option Codes) → FitsHead (elim o [ Some t ↦ head.Found (lexeme.Plain (kind.Quoted t.codes)) t.bytes | None ↦ head.Fault (fault.OpenText line) ])
    by None = tt
    by (Some t) = tt

sign_fits : (line b : ℕ) (s : List ℕ) → FitsHead (sign_at line b s)
sign_fits line b s = by (long_sign b s) (short_sign b)
  where
    by : (o p : Option Sign) → FitsHead (elim o [ Some x ↦ head.Found (lexeme.Plain (kind.Sign x)) 1 | None ↦ elim p [ Some x ↦ head.Found (lexeme.Plain (kind.Sign x)) 0 | None ↦ head.Fault (fault.BadByte line) ] ])
    by (Some x) p = tt
    by None (Some x) = tt
    by None None = tt

pub head_fits : (line b : ℕ) (s : List ℕ) → FitsHead (head_of line b s)
head_fits line b s =
    if_fits (is_blank b) _ _ tt
    (if_fits (nat_eq b 37) _ _ tt
    (if_fits (is_ascii_alphabetic b) _ _ (name_fits b s)
    (if_fits (is_ascii_digit b) _ _ (number_fits line b s)
    (if_fits (nat_eq b 39) _ _ (character_fits line s)
    (if_fits (nat_eq b 34) _ _ (text_fits line s) (sign_fits line b s))))))
