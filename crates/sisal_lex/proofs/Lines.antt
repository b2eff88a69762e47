-- No token and no comment goes past the end of its line.
use Rattle.std.proofs.Common.{◌≡◌, ℕ, zero, suc, ◌+◌, ◌-◌, ◌≤◌, Bool, true, false, cond, not, ◌&&◌, nat_eq, nat_le, List, [], ◌∷◌, drop, Option, Some, None, ℤ, refl, sym, ap, subst, arith, if◌then◌else◌, slice_get, option_map}
use Rattle.std.proofs.Math.Bool.{and-false}
use Rattle.std.proofs.lemmas.Bool.{eqb-true}
use Rattle.std.specs.List.{prefix_len}
use Rattle.std.specs.Char.{is_ascii_alphabetic, is_ascii_digit}
use Rattle.sisal_lex.specs.Quotes.{hex_digit, hex_code, hex_item, escaped, escape, item, character, character_closed, items, byte_more, item_more, then_items}
use Rattle.sisal_lex.specs.Signs.{long_sign, short_sign}
use Rattle.sisal_lex.specs.Heads.{bytes_after}
use Rattle.sisal_lex.specs.Tokens.{is_blank, is_in_line, is_in_name, line_after, number_value, number_in_range, head_of, name_at, number_at, character_at, text_at, sign_at, lexed}
use Rattle.sisal_lex.specs.declared.quotes.Item.{Item}
use Rattle.sisal_lex.specs.declared.quotes.Codes.{Codes}
use Rattle.sisal_lex.specs.declared.token.Sign.{Sign}
use Rattle.sisal_lex.specs.declared.token.Kind.TheVariants as kind
use Rattle.sisal_lex.specs.declared.head.Head.{Head}
use Rattle.sisal_lex.specs.declared.head.Head.TheVariants as head
use Rattle.sisal_lex.specs.declared.head.Lexeme.TheVariants as lexeme
use Rattle.sisal_lex.specs.declared.fault.LexFault.TheVariants as fault

-- a byte ends the line, or it does not
by_feed : (P : ℕ → Type 0) → P 10 → ((b : ℕ) → nat_eq b 10 ≡ false → P b) → (b : ℕ) → P b
by_feed P feed other b = by (nat_eq b 10) refl
  where
    by : (t : Bool) → nat_eq b 10 ≡ t → P b
    by true e = subst P (sym (eqb-true b 10 e)) feed
    by false e = other b e

one_more : (b : ℕ) (s : List ℕ) → nat_eq b 10 ≡ false → prefix_len is_in_line (b ∷ s) ≡ 1 + prefix_len is_in_line s
one_more b s e = ap (λ t. cond (not t) (1 + prefix_len is_in_line s) 0) e

-- bytes of the same line leave the line as it is
pub skip_bytes : (s : List ℕ) (line k : ℕ) → k ≤ prefix_len is_in_line s → lexed s line k ≡ lexed (drop k s) line 0
skip_bytes [] line zero h = refl
skip_bytes [] line (suc k) h = refl
skip_bytes (b ∷ s) line zero h = refl
skip_bytes (b ∷ s) line (suc k) h = by (nat_eq b 10) h (skip_bytes s line k)
  where
    by : (t : Bool) → suc k ≤ cond (not t) (1 + prefix_len is_in_line s) 0 → (k ≤ prefix_len is_in_line s → lexed s line k ≡ lexed (drop k s) line 0)
        → lexed s (if t then line + 1 else line) k ≡ lexed (drop k s) line 0
    by true h rest = absurd (omega arith)
    by false h rest = rest (omega arith)

-- rows of one class
row_within : (p q : ℕ → Bool) → ((b : ℕ) → p b ≡ true → q b ≡ true) → (s : List ℕ) → prefix_len p s ≤ prefix_len q s
row_within p q h [] = omega arith
row_within p q h (b ∷ s) = by (p b) refl (row_within p q h s)
  where
    by : (t : Bool) → p b ≡ t → prefix_len p s ≤ prefix_len q s → cond t (1 + prefix_len p s) 0 ≤ prefix_len q (b ∷ s)
    by true e rest = subst (λ t. 1 + prefix_len p s ≤ cond t (1 + prefix_len q s) 0) (sym (h b e)) (omega arith)
    by false e rest = omega arith

name_within : (s : List ℕ) → prefix_len is_in_name s ≤ prefix_len is_in_line s
name_within = row_within is_in_name is_in_line (by_feed (λ b. is_in_name b ≡ true → is_in_line b ≡ true) (λ e. e) (λ b ne e. ap not ne))

digits_within : (s : List ℕ) → prefix_len is_ascii_digit s ≤ prefix_len is_in_line s
digits_within = row_within is_ascii_digit is_in_line (by_feed (λ b. is_ascii_digit b ≡ true → is_in_line b ≡ true) (λ e. e) (λ b ne e. ap not ne))

-- an item has at least one byte and at most n
abbrev Fits : ℕ → Option Item → Type 0
Fits n None = Unit {0}
Fits n (Some i) = (1 ≤ i.bytes) × (i.bytes ≤ n)

fits_if : (t : Bool) (n : ℕ) (x y : Option Item) → Fits n x → Fits n y → Fits n (if t then x else y)
fits_if true n x y h k = h
fits_if false n x y h k = k

fits_map : (k n : ℕ) (o : Option ℕ) → 1 ≤ k → k ≤ n → Fits n (option_map (λ code. record { code = code; bytes = k }) o)
fits_map k n None low high = tt
fits_map k n (Some code) low high = (low, high)

hex_code-none : (o : Option ℕ) → hex_code o None ≡ None
hex_code-none None = refl
hex_code-none (Some high) = refl

hex_fits : (s : List ℕ) → Fits (2 + prefix_len is_in_line s) (hex_item s)
hex_fits [] = tt
hex_fits (h ∷ []) = tt
hex_fits (h ∷ l ∷ s) = by_feed (λ h. Fits (2 + prefix_len is_in_line (h ∷ l ∷ s)) (hex_item (h ∷ l ∷ s))) tt high h
  where
    low : (h : ℕ) → nat_eq h 10 ≡ false → (l : ℕ) → nat_eq l 10 ≡ false → Fits (2 + prefix_len is_in_line (h ∷ l ∷ s)) (hex_item (h ∷ l ∷ s))
    low h ne l me =
        let e = one_more h (l ∷ s) ne in
        let f = one_more l s me in
        fits_map 4 _ (hex_code (hex_digit h) (hex_digit l)) (omega arith) (omega (arith, e, f))

    high : (h : ℕ) → nat_eq h 10 ≡ false → Fits (2 + prefix_len is_in_line (h ∷ l ∷ s)) (hex_item (h ∷ l ∷ s))
    high h ne =
        by_feed (λ l. Fits (2 + prefix_len is_in_line (h ∷ l ∷ s)) (hex_item (h ∷ l ∷ s)))
        (subst (λ o. Fits (2 + prefix_len is_in_line (h ∷ 10 ∷ s)) (option_map (λ code. record { code = code; bytes = 4 }) o)) (sym (hex_code-none (hex_digit h))) tt)
        (low h ne) l

escape_fits : (s : List ℕ) → Fits (1 + prefix_len is_in_line s) (escape s)
escape_fits [] = tt
escape_fits (b ∷ s) = by_feed (λ b. Fits (1 + prefix_len is_in_line (b ∷ s)) (escape (b ∷ s))) tt other b
  where
    other : (b : ℕ) → nat_eq b 10 ≡ false → Fits (1 + prefix_len is_in_line (b ∷ s)) (escape (b ∷ s))
    other b ne =
        subst (λ n. Fits (1 + n) (escape (b ∷ s))) (sym (one_more b s ne))
        (fits_if (nat_eq b 120) (1 + (1 + prefix_len is_in_line s)) (hex_item s) _ (fits_wider (2 + prefix_len is_in_line s) _ (hex_item s) (omega arith) (hex_fits s)) (fits_map 2 _ (escaped b) (omega arith) (omega arith)))
      where
        fits_wider : (m n : ℕ) (o : Option Item) → m ≤ n → Fits m o → Fits n o
        fits_wider m n None h k = tt
        fits_wider m n (Some i) h k = (k.0, omega (arith, k.1))

item_fits : (quote : ℕ) (s : List ℕ) → Fits (prefix_len is_in_line s) (item quote s)
item_fits quote [] = tt
item_fits quote (b ∷ s) = by_feed (λ b. Fits (prefix_len is_in_line (b ∷ s)) (item quote (b ∷ s))) tt other b
  where
    other : (b : ℕ) → nat_eq b 10 ≡ false → Fits (prefix_len is_in_line (b ∷ s)) (item quote (b ∷ s))
    other b ne =
        subst (λ n. Fits n (item quote (b ∷ s))) (sym (one_more b s ne))
        (fits_if (nat_eq b 92) (1 + prefix_len is_in_line s) (escape s) _ (escape_fits s)
        (fits_if (nat_le 32 b && nat_le b 126 && not (nat_eq b quote)) (1 + prefix_len is_in_line s) (Some (record { code = b; bytes = 1 })) None (omega arith, omega arith) tt))

-- a text has at most n bytes
abbrev CodesFit : ℕ → Option Codes → Type 0
CodesFit n None = Unit {0}
CodesFit n (Some t) = t.bytes ≤ n

byte_more_fits : (n : ℕ) (o : Option Codes) → CodesFit n o → CodesFit (1 + n) (byte_more o)
byte_more_fits n None h = tt
byte_more_fits n (Some t) h = omega (arith, h)

item_more_fits : (code n : ℕ) (o : Option Codes) → CodesFit n o → CodesFit (1 + n) (item_more code o)
item_more_fits code n None h = tt
item_more_fits code n (Some t) h = omega (arith, h)

then_items_fit : (n : ℕ) (o : Option Item) (after : ℕ → Option Codes) → Fits (1 + n) o → ((k : ℕ) → k ≤ n → CodesFit n (after k)) → CodesFit (1 + n) (then_items o after)
then_items_fit n None after h rest = tt
then_items_fit n (Some one) after h rest = item_more_fits one.code n (after (one.bytes - 1)) (rest (one.bytes - 1) (omega (arith, h.1)))

codes_fit_if : (t : Bool) (n : ℕ) (x y : Option Codes) → CodesFit n x → CodesFit n y → CodesFit n (if t then x else y)
codes_fit_if true n x y h k = h
codes_fit_if false n x y h k = k

items_fit : (s : List ℕ) (k : ℕ) → k ≤ prefix_len is_in_line s → CodesFit (prefix_len is_in_line s) (items s k)
items_fit [] k h = tt
items_fit (b ∷ s) (suc k) h =
    by_feed (λ b. suc k ≤ prefix_len is_in_line (b ∷ s) → CodesFit (prefix_len is_in_line (b ∷ s)) (items (b ∷ s) (suc k)))
    (λ h. absurd (omega (arith, h)))
    (λ b ne h. subst (λ n. CodesFit n (byte_more (items s k))) (sym (one_more b s ne)) (byte_more_fits (prefix_len is_in_line s) (items s k) (items_fit s k (omega (arith, h, one_more b s ne)))))
    b h
items_fit (b ∷ s) zero h =
    by_feed (λ b. CodesFit (prefix_len is_in_line (b ∷ s)) (items (b ∷ s) 0)) tt
    (λ b ne. subst (λ n. CodesFit n (items (b ∷ s) 0)) (sym (one_more b s ne))
    (codes_fit_if (nat_eq b 34) (1 + prefix_len is_in_line s) (Some (record { codes = []; bytes = 1 })) (then_items (item 34 (b ∷ s)) (items s))
    (omega arith)
    (then_items_fit (prefix_len is_in_line s) (item 34 (b ∷ s)) (items s) (subst (λ n. Fits n (item 34 (b ∷ s))) (one_more b s ne) (item_fits 34 (b ∷ s))) (items_fit s))))
    b

-- the closing quote of a character
abbrev Closes : ℕ → ℕ → Option ℕ → Type 0
Closes n m None = Unit {0}
Closes n m (Some b) = nat_eq b 39 ≡ true → m ≤ n

closes_later : (n m : ℕ) (o : Option ℕ) → Closes n m o → Closes (1 + n) (1 + m) o
closes_later n m None h = tt
closes_later n m (Some b) h = λ e. let k = h e in omega (arith, k)

closing : (s : List ℕ) (k : ℕ) → k ≤ prefix_len is_in_line s → Closes (prefix_len is_in_line s) (1 + k) (slice_get s k)
closing [] k h = tt
closing (b ∷ s) zero h = by_feed (λ b. Closes (prefix_len is_in_line (b ∷ s)) 1 (Some b)) (λ e. cc) (λ b ne e. let f = one_more b s ne in omega (arith, f)) b
closing (b ∷ s) (suc k) h =
    by_feed (λ b. suc k ≤ prefix_len is_in_line (b ∷ s) → Closes (prefix_len is_in_line (b ∷ s)) (1 + suc k) (slice_get s k))
    (λ h. absurd (omega (arith, h)))
    (λ b ne h.
    let step : 1 + (1 + k) ≡ 1 + suc k = omega arith in
    let rest = closes_later (prefix_len is_in_line s) (1 + k) (slice_get s k) (closing s k (omega (arith, h, one_more b s ne))) in
    subst (λ n. Closes n (1 + suc k) (slice_get s k)) (sym (one_more b s ne)) (subst (λ m. Closes (1 + prefix_len is_in_line s) m (slice_get s k)) step rest))
    b h

abbrev AtMost : ℕ → Option Item → Type 0
AtMost n None = Unit {0}
AtMost n (Some i) = i.bytes ≤ n

closed_fits : (s : List ℕ) (one : Item) → one.bytes ≤ prefix_len is_in_line s → AtMost (prefix_len is_in_line s) (character_closed s one)
closed_fits s one h = by (slice_get s one.bytes) (closing s one.bytes h)
  where
    ends : (t : Bool) → (t ≡ true → 1 + one.bytes ≤ prefix_len is_in_line s) → AtMost (prefix_len is_in_line s) (if t then Some (record { code = one.code; bytes = one.bytes + 1 }) else None)
    ends true h = let k = h refl in omega (arith, k)
    ends false h = tt

    by : (o : Option ℕ) → Closes (prefix_len is_in_line s) (1 + one.bytes) o
        → AtMost (prefix_len is_in_line s) (elim o [ None ↦ None | Some b ↦ if nat_eq b 39 then Some (record { code = one.code; bytes = one.bytes + 1 }) else None ])
    by None h = tt
    by (Some b) h = ends (nat_eq b 39) h

character_fits : (s : List ℕ) → AtMost (prefix_len is_in_line s) (character s)
character_fits s = by (item 39 s) (item_fits 39 s)
  where
    by : (o : Option Item) → Fits (prefix_len is_in_line s) o → AtMost (prefix_len is_in_line s) (elim o [ None ↦ None | Some one ↦ character_closed s one ])
    by None h = tt
    by (Some one) h = closed_fits s one h.1

-- what stands at the head of a text
after_if : (t : Bool) (n : ℕ) (x y : Head) → bytes_after x ≤ n → bytes_after y ≤ n → bytes_after (if t then x else y) ≤ n
after_if true n x y h k = h
after_if false n x y h k = k

number_after : (line : ℕ) (b : ℕ) (s : List ℕ) → bytes_after (number_at line b s) ≤ prefix_len is_in_line s
number_after line b s = by _
  where
    by : (o : Option ℤ) → bytes_after (elim o [ Some n ↦ head.Found (lexeme.Plain (kind.Number n)) (prefix_len is_ascii_digit s) | None ↦ head.Fault (fault.NumberTooWide line) ]) ≤ prefix_len is_in_line s
    by None = omega arith
    by (Some n) = digits_within s

character_after : (line : ℕ) (s : List ℕ) → bytes_after (character_at line s) ≤ prefix_len is_in_line s
character_after line s = by (character s) (character_fits s)
  where
    by : (o : Option Item) → AtMost (prefix_len is_in_line s) o → bytes_after (elim o [ Some t ↦ head.Found (lexeme.Plain (kind.Letter t.code)) t.bytes | None ↦ head.Fault (fault.OpenText line) ]) ≤ prefix_len is_in_line s
    by None h = omega arith
    by (Some t) h = h

text_after : (line : ℕ) (s : List ℕ) → bytes_after (text_at line s) ≤ prefix_len is_in_line s
text_after line s = by (items s 0) (items_fit s 0 (omega arith))
  where
    by : (o : Option Codes) → CodesFit (prefix_len is_in_line s) o → bytes_after (elim o [ Some t ↦ head.Found (lexeme.Plain (kind.Quoted t.codes)) t.bytes | None ↦ head.Fault (fault.OpenText line) ]) ≤ prefix_len is_in_line s
    by None h = omega arith
    by (Some t) h = h

abbrev IsNotAtEnd : ℕ → Option Sign → Type 0
IsNotAtEnd n None = Unit {0}
IsNotAtEnd n (Some x) = 1 ≤ n

no_sign : (b : ℕ) (s : List ℕ) → long_sign b (10 ∷ s) ≡ None
no_sign b s = simp and-false

long_fits : (b : ℕ) (s : List ℕ) → IsNotAtEnd (prefix_len is_in_line s) (long_sign b s)
long_fits b [] = tt
long_fits b (c ∷ s) = by_feed (λ c. IsNotAtEnd (prefix_len is_in_line (c ∷ s)) (long_sign b (c ∷ s))) (subst (IsNotAtEnd 0) (sym (no_sign b s)) tt) (λ c ne. any c ne (long_sign b (c ∷ s))) c
  where
    any : (c : ℕ) → nat_eq c 10 ≡ false → (o : Option Sign) → IsNotAtEnd (prefix_len is_in_line (c ∷ s)) o
    any c ne None = tt
    any c ne (Some x) = let e = one_more c s ne in omega (arith, e)

sign_after : (line b : ℕ) (s : List ℕ) → bytes_after (sign_at line b s) ≤ prefix_len is_in_line s
sign_after line b s = by (long_sign b s) (short_sign b) (long_fits b s)
  where
    by : (o p : Option Sign) → IsNotAtEnd (prefix_len is_in_line s) o
        → bytes_after (elim o [ Some x ↦ head.Found (lexeme.Plain (kind.Sign x)) 1 | None ↦ elim p [ Some x ↦ head.Found (lexeme.Plain (kind.Sign x)) 0 | None ↦ head.Fault (fault.BadByte line) ] ]) ≤ prefix_len is_in_line s
    by (Some x) p h = h
    by None (Some x) h = omega arith
    by None None h = omega arith

pub head_within : (line b : ℕ) (s : List ℕ) → bytes_after (head_of line b s) ≤ prefix_len is_in_line s
head_within line b s =
    after_if (is_blank b) _ _ _ (omega arith)
    (after_if (nat_eq b 37) _ _ _ (omega arith)
    (after_if (is_ascii_alphabetic b) _ _ _ (name_within s)
    (after_if (is_ascii_digit b) _ _ _ (number_after line b s)
    (after_if (nat_eq b 39) _ _ _ (character_after line s)
    (after_if (nat_eq b 34) _ _ _ (text_after line s) (sign_after line b s))))))
