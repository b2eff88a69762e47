-- Which faults of tokens a text has, by its length.
use Rattle.std.proofs.Common.{◌≡◌, ◌≤◌, ◌<◌, ℕ, zero, suc, Bool, true, false, subst, List, [], ◌∷◌, length, take, refl, arith, if◌then◌else◌, Ok, Err, nat_lt, nat_eq, nat_le, Option, Some, None, pos}
use Rattle.std.specs.Prelude.{Result}
use Rattle.std.specs.List.{prefix_len}
use Rattle.std.specs.Char.{is_ascii_alphabetic, is_ascii_digit}
use Rattle.sisal_lex.specs.Quotes.{character, items}
use Rattle.sisal_lex.specs.declared.quotes.Item.{Item}
use Rattle.sisal_lex.specs.declared.quotes.Codes.{Codes}
use Rattle.sisal_lex.specs.Signs.{long_sign, short_sign}
use Rattle.sisal_lex.specs.Names.{Lexed}
use Rattle.sisal_lex.specs.Tokens.{tokens_of, named, lexed, in_turn, followed, head_of, line_after, is_blank, number_at, number_value, character_at, text_at, sign_at}
use Rattle.sisal_lex.specs.declared.fault.LexFault.{LexFault}
use Rattle.sisal_lex.specs.declared.fault.LexFault.TheVariants as fault
use Rattle.sisal_lex.specs.declared.head.Head.{Head}
use Rattle.sisal_lex.specs.declared.head.Head.TheVariants as head
use Rattle.sisal_lex.specs.declared.head.Lexeme.TheVariants as lexeme
use Rattle.sisal_lex.specs.declared.token.Sign.{Sign}
use Rattle.sisal_lex.specs.declared.token.Kind.TheVariants as kind

-- a fault that has a line
abbrev pub HasLine : LexFault → Type 0
HasLine fault.TooLong = ⊥
HasLine fault.NoMemory = ⊥
HasLine f = Unit {0}

abbrev IsLined : Head → Type 0
IsLined (head.Fault f) = HasLine f
IsLined h = Unit {0}

lined_if : (t : Bool) (x y : Head) → IsLined x → IsLined y → IsLined (if t then x else y)
lined_if true x y h k = h
lined_if false x y h k = k

number_lined : (line b : ℕ) (s : List ℕ) → IsLined (number_at line b s)
number_lined line b s = by (number_value (b ∷ take (prefix_len is_ascii_digit s) s)) (nat_le (number_value (b ∷ take (prefix_len is_ascii_digit s) s)) 9223372036854775807)
  where
    by : (value : ℕ) (t : Bool) → IsLined (elim (if t then Some (pos value) else None) [
      | Some n ↦ head.Found (lexeme.Plain (kind.Number n)) (prefix_len is_ascii_digit s)
      | None ↦ head.Fault (fault.NumberTooWide line)
    ])
    by value true = tt
    by value false = tt

character_lined : (line : ℕ) (s : List ℕ) → IsLined (character_at line s)
character_lined line s = by (character s)
  where
    by : (o : Option Item) → IsLined (elim o [ Some t ↦ head.Found (lexeme.Plain (kind.Letter t.code)) t.bytes | None ↦ head.Fault (fault.OpenText line) ])
    by None = tt
    by (Some t) = tt

text_lined : (line : ℕ) (s : List ℕ) → IsLined (text_at line s)
text_lined line s = by (items s 0)
  where
    by : (o : Option Codes) → IsLined (elim o [ Some t ↦ head.Found (lexeme.Plain (kind.Quoted t.codes)) t.bytes | None ↦ head.Fault (fault.OpenText line) ])
    by None = tt
    by (Some t) = tt

sign_lined : (line b : ℕ) (s : List ℕ) → IsLined (sign_at line b s)
sign_lined line b s = by (long_sign b s) (short_sign b)
  where
    by : (o p : Option Sign) → IsLined (elim o [ Some x ↦ head.Found (lexeme.Plain (kind.Sign x)) 1 | None ↦ elim p [ Some x ↦ head.Found (lexeme.Plain (kind.Sign x)) 0 | None ↦ head.Fault (fault.BadByte line) ] ])
    by (Some x) p = tt
    by None (Some x) = tt
    by None None = tt

head_lined : (line b : ℕ) (s : List ℕ) → IsLined (head_of line b s)
head_lined line b s =
    lined_if (is_blank b) _ _ tt
    (lined_if (nat_eq b 37) _ _ tt
    (lined_if (is_ascii_alphabetic b) _ _ tt
    (lined_if (is_ascii_digit b) _ _ (number_lined line b s)
    (lined_if (nat_eq b 39) _ _ (character_lined line s)
    (lined_if (nat_eq b 34) _ _ (text_lined line s) (sign_lined line b s))))))

abbrev AreLined : {A : Type 0} → Result A LexFault → Type 0
AreLined (Ok x) = Unit {0}
AreLined (Err f) = HasLine f

followed_lined : (l : Lexed) (r : Result (List Lexed) LexFault) → AreLined r → AreLined (followed l r)
followed_lined l (Ok ls) h = tt
followed_lined l (Err f) h = h

turn_lined : (h : Head) (line : ℕ) (after : ℕ → Result (List Lexed) LexFault) → IsLined h → ((n : ℕ) → AreLined (after n)) → AreLined (in_turn h line after)
turn_lined (head.Gap more) line after h rest = rest more
turn_lined (head.Found x more) line after h rest = followed_lined (record { lexeme = x; line = line }) (after more) (rest more)
turn_lined (head.Fault f) line after h rest = h

lexed_lined : (s : List ℕ) (line left : ℕ) → AreLined (lexed s line left)
lexed_lined [] line left = tt
lexed_lined (b ∷ s) line (suc left) = lexed_lined s (line_after line b) left
lexed_lined (b ∷ s) line zero = turn_lined (head_of line b s) line (lexed s (line_after line b)) (head_lined line b s) (λ n. lexed_lined s (line_after line b) n)

named_lined : (r : Result (List Lexed) LexFault) (f : LexFault) → AreLined r → named r ≡ Err f → HasLine f
named_lined (Ok ls) f h e = cc
named_lined (Err g) f h e = let same : g ≡ f = cc in subst HasLine same h

above : (n m : ℕ) → nat_lt n m ≡ true → n < m
above n m e = grind (arith, e)

not_above : (n m : ℕ) → nat_lt n m ≡ false → m ≤ n
not_above n m e = grind (arith, e)

-- a fault of a text that is not too long has a line
pub fault_lined : (text : List ℕ) (f : LexFault) → tokens_of text ≡ Err f → length text ≤ 4194304 → HasLine f
fault_lined text f e few = by (nat_lt 4194304 (length text)) refl e
  where
    by : (b : Bool) → nat_lt 4194304 (length text) ≡ b → (if b then Err fault.TooLong else named (lexed text 1 0)) ≡ Err f → HasLine f
    by true l e = let over = above 4194304 (length text) l in absurd (omega (arith, over, few))
    by false l e = named_lined (lexed text 1 0) f (lexed_lined text 1 0) e

-- a text that is too long has no tokens
pub tokens_long : (text : List ℕ) → 4194304 < length text → tokens_of text ≡ Err fault.TooLong
tokens_long text l = by (nat_lt 4194304 (length text)) refl
  where
    by : (b : Bool) → nat_lt 4194304 (length text) ≡ b → (if b then Err fault.TooLong else named (lexed text 1 0)) ≡ Err fault.TooLong
    by true e = refl
    by false e = let few = not_above 4194304 (length text) e in absurd (omega (arith, few, l))
