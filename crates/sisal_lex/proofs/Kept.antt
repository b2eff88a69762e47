-- The facts of `Sound` of what stands at the head of a text, and of the tokens and names that are read.
use Rattle.std.proofs.Common.{◌≡◌, ℕ, zero, suc, ◌+◌, ◌-◌, ◌*◌, ◌≤◌, ◌<◌, Bool, true, false, cond, not, ◌&&◌, ◌||◌, true≢false, nat_eq, nat_le, List, [], ◌∷◌, ◌++◌, map, take, length, Option, Some, None, ℤ, pos, ◌≤ℤ◌, refl, sym, ap, ◌∙◌, subst, arith, if◌then◌else◌, slice_get, option_map, bytes_eq, All, IsTrue}
use Rattle.std.proofs.lemmas.Int.{ints}
use Rattle.std.proofs.lemmas.Bool.{leb-true}
use Rattle.std.proofs.lemmas.Bool.Decides.{nat_tests}
use Rattle.std.proofs.lemmas.List.Elements.{All-append, All-push}
use Rattle.std.proofs.lemmas.List.{length-append}
use Rattle.std.specs.List.{prefix_len, list_all, list_any, position_or_len}
use Rattle.std.specs.Char.{is_ascii_alphabetic, is_ascii_digit, is_ascii_lowercase, to_ascii_lowercase}
use Rattle.sisal_lex.specs.Words.{words, beside}
use Rattle.sisal_lex.specs.Quotes.{hex_digit, hex_code, hex_item, escaped, escape, item, character, character_closed, items, byte_more, item_more, then_items}
use Rattle.sisal_lex.specs.Signs.{long_sign, short_sign}
use Rattle.sisal_lex.specs.Names.{used, used_by, kind_in}
use Rattle.sisal_lex.specs.Heads.{tokens_in, used_at, IsNoFault}
use Rattle.sisal_lex.specs.Sound.{IsSoundKind, AreSound, is_in_folded, is_folded, AreFolded}
use Rattle.sisal_lex.specs.Tokens.{is_blank, is_in_line, is_in_name, number_value, number_in_range, head_of, name_at, number_at, character_at, text_at, sign_at, word_or_name}
use Rattle.sisal_lex.proofs.Turns.{any_used, place_used}
use Rattle.sisal_lex.specs.declared.quotes.Item.{Item}
use Rattle.sisal_lex.specs.declared.quotes.Codes.{Codes}
use Rattle.sisal_lex.specs.declared.token.Word.{Word}
use Rattle.sisal_lex.specs.declared.token.Sign.{Sign}
use Rattle.sisal_lex.specs.declared.token.Kind.{Kind}
use Rattle.sisal_lex.specs.declared.token.Kind.TheVariants as kind
use Rattle.sisal_lex.specs.declared.token.Token.{Token}
use Rattle.sisal_lex.specs.declared.head.Head.{Head}
use Rattle.sisal_lex.specs.declared.head.Head.TheVariants as head
use Rattle.sisal_lex.specs.declared.head.Lexeme.{Lexeme}
use Rattle.sisal_lex.specs.declared.head.Lexeme.TheVariants as lexeme
use Rattle.sisal_lex.specs.declared.fault.LexFault.TheVariants as fault

-- codes below 128
abbrev CodeBelow : Option ℕ → Type 0
CodeBelow None = Unit {0}
CodeBelow (Some code) = code < 128

code_if : (t : Bool) (x y : Option ℕ) → CodeBelow x → CodeBelow y → CodeBelow (if t then x else y)
code_if true x y h k = h
code_if false x y h k = k

escaped_below : (b : ℕ) → CodeBelow (escaped b)
escaped_below b =
    code_if (nat_eq b 110) _ _ (omega arith)
    (code_if (nat_eq b 116) _ _ (omega arith)
    (code_if (nat_eq b 114) _ _ (omega arith)
    (code_if (nat_eq b 92) _ _ (omega arith)
    (code_if (nat_eq b 39) _ _ (omega arith)
    (code_if (nat_eq b 34) (Some 34) None (omega arith) tt)))))

hex_below : (o p : Option ℕ) → CodeBelow (hex_code o p)
hex_below None p = tt
hex_below (Some high) None = tt
hex_below (Some high) (Some low) = by (nat_le (16 * high + low) 127) refl
  where
    by : (t : Bool) → nat_le (16 * high + low) 127 ≡ t → CodeBelow (if t then Some (16 * high + low) else None)
    by true e = let h = leb-true (16 * high + low) 127 e in omega (arith, h)
    by false e = tt

abbrev ItemBelow : Option Item → Type 0
ItemBelow None = Unit {0}
ItemBelow (Some one) = one.code < 128

item_if : (t : Bool) (x y : Option Item) → (t ≡ true → ItemBelow x) → ItemBelow y → ItemBelow (if t then x else y)
item_if true x y h k = h refl
item_if false x y h k = k

item_map : (k : ℕ) (o : Option ℕ) → CodeBelow o → ItemBelow (option_map (λ code. record { code = code; bytes = k }) o)
item_map k None h = tt
item_map k (Some code) h = h

hex_item_below : (s : List ℕ) → ItemBelow (hex_item s)
hex_item_below [] = tt
hex_item_below (h ∷ []) = tt
hex_item_below (h ∷ l ∷ s) = item_map 4 (hex_code (hex_digit h) (hex_digit l)) (hex_below (hex_digit h) (hex_digit l))

escape_below : (s : List ℕ) → ItemBelow (escape s)
escape_below [] = tt
escape_below (b ∷ s) = item_if (nat_eq b 120) (hex_item s) _ (λ e. hex_item_below s) (item_map 2 (escaped b) (escaped_below b))

middle : (x y z : Bool) → x && y && z ≡ true → y ≡ true
middle true true z h = refl
middle true false z h = h
middle false y z h = absurd (true≢false (sym h))

item_below : (quote : ℕ) (s : List ℕ) → ItemBelow (item quote s)
item_below quote [] = tt
item_below quote (b ∷ s) =
    item_if (nat_eq b 92) (escape s) _ (λ e. escape_below s)
    (item_if (nat_le 32 b && nat_le b 126 && not (nat_eq b quote)) (Some (record { code = b; bytes = 1 })) None
    (λ e. let h = leb-true b 126 (middle (nat_le 32 b) (nat_le b 126) (not (nat_eq b quote)) e) in omega (arith, h)) tt)

character_below : (s : List ℕ) → ItemBelow (character s)
character_below s = by (item 39 s) (item_below 39 s)
  where
    closed : (one : Item) → one.code < 128 → (o : Option ℕ) → ItemBelow (elim o [ None ↦ None | Some b ↦ if nat_eq b 39 then Some (record { code = one.code; bytes = one.bytes + 1 }) else None ])
    closed one h None = tt
    closed one h (Some b) = item_if (nat_eq b 39) (Some (record { code = one.code; bytes = one.bytes + 1 })) None (λ e. h) tt

    by : (o : Option Item) → ItemBelow o → ItemBelow (elim o [ None ↦ None | Some one ↦ character_closed s one ])
    by None h = tt
    by (Some one) h = closed one h (slice_get s one.bytes)

abbrev CodesBelow : Option Codes → Type 0
CodesBelow None = Unit {0}
CodesBelow (Some t) = All (λ code. code < 128) t.codes

codes_if : (t : Bool) (x y : Option Codes) → CodesBelow x → CodesBelow y → CodesBelow (if t then x else y)
codes_if true x y h k = h
codes_if false x y h k = k

byte_more_below : (o : Option Codes) → CodesBelow o → CodesBelow (byte_more o)
byte_more_below None h = tt
byte_more_below (Some t) h = h

none_below : All (λ (code : ℕ). code < 128) []
none_below k d h = absurd (omega (arith, h))

item_more_below : (code : ℕ) (o : Option Codes) → code < 128 → CodesBelow o → CodesBelow (item_more code o)
item_more_below code None small h = tt
item_more_below code (Some t) small h = All-append (λ (c : ℕ). c < 128) (code ∷ []) t.codes (All-push (λ (c : ℕ). c < 128) [] code none_below small) h

then_items_below : (o : Option Item) (after : ℕ → Option Codes) → ItemBelow o → ((k : ℕ) → CodesBelow (after k)) → CodesBelow (then_items o after)
then_items_below None after h rest = tt
then_items_below (Some one) after h rest = item_more_below one.code (after (one.bytes - 1)) h (rest (one.bytes - 1))

items_below : (s : List ℕ) (k : ℕ) → CodesBelow (items s k)
items_below [] k = tt
items_below (b ∷ s) (suc k) = byte_more_below (items s k) (items_below s k)
items_below (b ∷ s) zero = codes_if (nat_eq b 34) (Some (record { codes = []; bytes = 1 })) _ none_below (then_items_below (item 34 (b ∷ s)) (items s) (item_below 34 (b ∷ s)) (items_below s))

-- names in small letters
folded_letter : (b : ℕ) → is_ascii_alphabetic b ≡ true → is_ascii_lowercase (to_ascii_lowercase b) ≡ true
folded_letter b h = grind (arith, nat_tests)

folded_byte : (b : ℕ) → is_in_name b ≡ true → is_in_folded (to_ascii_lowercase b) ≡ true
folded_byte b h = grind (arith, nat_tests)

folded_row : (s : List ℕ) → list_all is_in_folded (map to_ascii_lowercase (take (prefix_len is_in_name s) s)) ≡ true
folded_row [] = refl
folded_row (b ∷ s) = by (is_in_name b) refl (folded_row s)
  where
    by : (t : Bool) → is_in_name b ≡ t → list_all is_in_folded (map to_ascii_lowercase (take (prefix_len is_in_name s) s)) ≡ true
        → list_all is_in_folded (map to_ascii_lowercase (take (cond t (1 + prefix_len is_in_name s) 0) (b ∷ s))) ≡ true
    by true e rest =
        let one : 1 + prefix_len is_in_name s ≡ suc (prefix_len is_in_name s) = omega arith in
        ap (λ n. list_all is_in_folded (map to_ascii_lowercase (take n (b ∷ s)))) one
        ∙ ap (λ t. t && list_all is_in_folded (map to_ascii_lowercase (take (prefix_len is_in_name s) s))) (folded_byte b e)
        ∙ rest
    by false e rest = refl

-- what stands at the head of a text
abbrev pub SoundHead : Head → Type 0
SoundHead (head.Gap more) = Unit {0}
SoundHead (head.Found (lexeme.Plain k) more) = IsSoundKind 0 k
SoundHead (head.Found (lexeme.Named name) more) = IsTrue (is_folded name)
SoundHead (head.Fault e) = Unit {0}

sound_if : (t : Bool) (x y : Head) → (t ≡ true → SoundHead x) → SoundHead y → SoundHead (if t then x else y)
sound_if true x y h k = h refl
sound_if false x y h k = k

name_sound : (b : ℕ) (s : List ℕ) → is_ascii_alphabetic b ≡ true → SoundHead (name_at b s)
name_sound b s h =
    by (beside name words) (ap (λ t. t && list_all is_in_folded (map to_ascii_lowercase (take (prefix_len is_in_name s) s))) (folded_letter b h) ∙ folded_row s)
  where
    name : List ℕ
    name = map to_ascii_lowercase (b ∷ take (prefix_len is_in_name s) s)

    by : (o : Option Word) → IsTrue (is_folded name) → SoundHead (head.Found (elim o [ Some w ↦ lexeme.Plain (kind.Word w) | None ↦ lexeme.Named name ]) (prefix_len is_in_name s))
    by (Some w) k = tt
    by None k = k

number_sound : (line b : ℕ) (s : List ℕ) → SoundHead (number_at line b s)
number_sound line b s = by (number_value (b ∷ take (prefix_len is_ascii_digit s) s)) (nat_le (number_value (b ∷ take (prefix_len is_ascii_digit s) s)) 9223372036854775807)
  where
    by : (value : ℕ) (t : Bool) → SoundHead (elim (if t then Some (pos value) else None) [
      | Some n ↦ head.Found (lexeme.Plain (kind.Number n)) (prefix_len is_ascii_digit s)
      | None ↦ head.Fault (fault.NumberTooWide line)
    ])
    by value true = omega (arith, ints)
    by value false = tt

character_sound : (line : ℕ) (s : List ℕ) → SoundHead (character_at line s)
character_sound line s = by (character s) (character_below s)
  where
    by : (o : Option Item) → ItemBelow o → SoundHead (elim o [ Some t ↦ head.Found (lexeme.Plain (kind.Letter t.code)) t.bytes | None ↦ head.Fault (fault.OpenText line) ])
    by None h = tt
    by (Some t) h = h

text_sound : (line : ℕ) (s : List ℕ) → SoundHead (text_at line s)
text_sound line s = by (items s 0) (items_below s 0)
  where
    by : (o : Option Codes) → CodesBelow o → SoundHead (elim o [ Some t ↦ head.Found (lexeme.Plain (kind.Quoted t.codes)) t.bytes | None ↦ head.Fault (fault.OpenText line) ])
    by None h = tt
    by (Some t) h = h

sign_sound : (line b : ℕ) (s : List ℕ) → SoundHead (sign_at line b s)
sign_sound line b s = by (long_sign b s) (short_sign b)
  where
    by : (o p : Option Sign) → SoundHead (elim o [ Some x ↦ head.Found (lexeme.Plain (kind.Sign x)) 1 | None ↦ elim p [ Some x ↦ head.Found (lexeme.Plain (kind.Sign x)) 0 | None ↦ head.Fault (fault.BadByte line) ] ])
    by (Some x) p = tt
    by None (Some x) = tt
    by None None = tt

pub head_sound : (line b : ℕ) (s : List ℕ) → SoundHead (head_of line b s)
head_sound line b s =
    sound_if (is_blank b) _ _ (λ e. tt)
    (sound_if (nat_eq b 37) _ _ (λ e. tt)
    (sound_if (is_ascii_alphabetic b) _ _ (name_sound b s)
    (sound_if (is_ascii_digit b) _ _ (λ e. number_sound line b s)
    (sound_if (nat_eq b 39) _ _ (λ e. character_sound line s)
    (sound_if (nat_eq b 34) _ _ (λ e. text_sound line s) (sign_sound line b s))))))

-- the tokens and names that are read
wider : (m n : ℕ) (k : Kind) → m ≤ n → IsSoundKind m k → IsSoundKind n k
wider m n (kind.Word w) h s = tt
wider m n (kind.Sign x) h s = tt
wider m n (kind.Id k) h s = omega (arith, h, s)
wider m n (kind.Number z) h s = s
wider m n (kind.Letter code) h s = s
wider m n (kind.Quoted codes) h s = s

place_below : (p : List ℕ → Bool) (xs : List (List ℕ)) → list_any p xs ≡ true → position_or_len p xs < length xs
place_below p [] h = absurd (true≢false (sym h))
place_below p (x ∷ xs) h = by (p x) h (place_below p xs)
  where
    by : (t : Bool) → t || list_any p xs ≡ true → (list_any p xs ≡ true → position_or_len p xs < length xs) → cond (not t) (1 + position_or_len p xs) 0 < suc (length xs)
    by true h rest = omega arith
    by false h rest = let k = rest h in omega (arith, k)

used_more : (names : List (List ℕ)) (name : List ℕ) → length names ≤ length (used names name)
used_more names name = by (list_any (bytes_eq name) names)
  where
    by : (t : Bool) → length names ≤ length (if t then names else names ++ name ∷ [])
    by true = omega arith
    by false = omega (arith, length-append names (name ∷ []))

pub sound_more : (list : List Token) (names : List (List ℕ)) (line : ℕ) (h : Head) → SoundHead h → AreSound (length names) list
    → AreSound (length (used_at names h)) (list ++ tokens_in names line h)
sound_more list names line (head.Gap more) h s = All-append (λ (t : Token). IsSoundKind (length names) t.kind) list [] s (λ k d i. absurd (omega (arith, i)))
sound_more list names line (head.Fault e) h s = All-append (λ (t : Token). IsSoundKind (length names) t.kind) list [] s (λ k d i. absurd (omega (arith, i)))
sound_more list names line (head.Found (lexeme.Plain k) more) h s =
    All-push (λ (t : Token). IsSoundKind (length names) t.kind) list (record { kind = k; line = line }) s (wider 0 (length names) k (omega arith) h)
sound_more list names line (head.Found (lexeme.Named name) more) h s =
    let p = bytes_eq name in
    let place : position_or_len p names < length (used names name) = let k = place_below p (used names name) (any_used names name) in omega (arith, k, place_used names name) in
    All-push (λ (t : Token). IsSoundKind (length (used names name)) t.kind) list (record { kind = kind.Id (position_or_len p names); line = line })
    (λ k d i. wider (length names) (length (used names name)) _ (used_more names name) (s k d i)) place

pub tokens_grow : (list : List Token) (names : List (List ℕ)) (line : ℕ) (h : Head) → length (list ++ tokens_in names line h) ≤ length list + 1
tokens_grow list names line (head.Gap more) = omega (arith, length-append list (tokens_in names line (head.Gap more)))
tokens_grow list names line (head.Found x more) = omega (arith, length-append list (tokens_in names line (head.Found x more)))
tokens_grow list names line (head.Fault e) = omega (arith, length-append list (tokens_in names line (head.Fault e)))

pub folded_more : (names : List (List ℕ)) (h : Head) → SoundHead h → AreFolded names → AreFolded (used_at names h)
folded_more names (head.Gap more) h s = s
folded_more names (head.Fault e) h s = s
folded_more names (head.Found (lexeme.Plain k) more) h s = s
folded_more names (head.Found (lexeme.Named name) more) h s = by (list_any (bytes_eq name) names)
  where
    by : (t : Bool) → AreFolded (if t then names else names ++ name ∷ [])
    by true = s
    by false = All-push (λ (n : List ℕ). IsTrue (is_folded n)) names name s h
