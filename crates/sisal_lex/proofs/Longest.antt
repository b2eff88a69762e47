-- What is taken at the head of a text is a token, and nothing longer is one.
use Rattle.std.proofs.Common.{◌≡◌, ◌<◌, ◌≤◌, ◌+◌, ◌⊎◌, inl, inr, ℕ, zero, suc, Bool, true, false, not, ◌&&◌, ◌||◌, cond, nat_eq, nat_le, List, [], ◌∷◌, ◌++◌, length, take, drop, map, Option, Some, None, option_map, refl, sym, ap, subst, ◌∙◌, append_assoc, arith}
use Rattle.std.specs.List.{list_all, prefix_len}
use Rattle.std.specs.Char.{is_ascii_alphabetic, is_ascii_digit, to_ascii_lowercase}
use Rattle.std.specs.Int.{is_in_range}
use Rattle.std.proofs.Common.{ℤ}
use Rattle.std.proofs.lemmas.Bool.{eqb-true, leb-true}
use Rattle.std.proofs.lemmas.Option.{same_Some}
use Rattle.std.proofs.lemmas.List.{length-take-le, length-append}
use Rattle.std.proofs.lemmas.List.Sums.{prefix_len-le-length}
use Rattle.sisal_lex.specs.Words.{beside}
use Rattle.sisal_lex.specs.Signs.{signs, long_sign, short_sign}
use Rattle.sisal_lex.specs.Quotes.{character, item, items}
use Rattle.sisal_lex.specs.Tokens.{is_blank, is_in_line, is_in_name, name_at, number_at, number_value, number_in_range, character_at, text_at, sign_at, head_of, word_or_name}
use Rattle.sisal_lex.specs.Spelling.{IsItem, AreItems, IsToken, word, number, character as character_token, text, sign, IsLongest, AreLongest}
use Rattle.sisal_lex.specs.declared.fault.LexFault.TheVariants as fault
use Rattle.sisal_lex.specs.declared.head.Head.{Head}
use Rattle.sisal_lex.specs.declared.head.Head.TheVariants as head
use Rattle.sisal_lex.specs.declared.head.Lexeme.{Lexeme}
use Rattle.sisal_lex.specs.declared.head.Lexeme.TheVariants as lexeme
use Rattle.sisal_lex.specs.declared.quotes.Item.{Item}
use Rattle.sisal_lex.specs.declared.quotes.Codes.{Codes}
use Rattle.sisal_lex.specs.declared.token.Kind.TheVariants as kind
use Rattle.sisal_lex.specs.declared.token.Sign.{Sign}
use Rattle.sisal_lex.proofs.Pieces.{both_true, either_true, row_passes, row_short, piece_taken, piece_length, whole_length, split_at, item_found, items_found, HasText, text_starts, HasCharacter, character_starts, is_like_sign, sign_is_so}

heads : {b c : ℕ} {s t : List ℕ} → b ∷ s ≡ c ∷ t → b ≡ c
heads e = cc

tails : {b c : ℕ} {s t : List ℕ} → b ∷ s ≡ c ∷ t → s ≡ t
tails e = cc

-- no letter is a digit
apart : (b : ℕ) → is_ascii_alphabetic b ≡ true → is_ascii_digit b ≡ true → ⊥
apart b a d = by (either_true (is_in_range 65 90 b) (is_in_range 97 122 b) a)
  where
    digit : b ≤ 57
    digit = leb-true b 57 (both_true (nat_le 48 b) (nat_le b 57) d).1

    by : (is_in_range 65 90 b ≡ true) ⊎ (is_in_range 97 122 b ≡ true) → ⊥
    by (inl large) = let x = leb-true 65 b (both_true (nat_le 65 b) (nat_le b 90) large).0 in let y = digit in omega (arith, x, y)
    by (inr small) = let x = leb-true 97 b (both_true (nat_le 97 b) (nat_le b 122) small).0 in let y = digit in omega (arith, x, y)

-- what the first byte of a sign is not
record NoOther (b : ℕ) (s : List ℕ) : Type 0 where
  letter : not (is_ascii_alphabetic b) ≡ true
  digit : not (is_ascii_digit b) ≡ true
  quote : not (nat_eq b 39) ≡ true
  quotes : not (nat_eq b 34) ≡ true
  short : nat_le (length s) 1 ≡ true

no_other : (b : ℕ) (s : List ℕ) (x : Sign) → beside (b ∷ s) signs ≡ Some x → NoOther b s
no_other b s x e =
    let all = both_true (not (is_ascii_alphabetic b) && not (is_ascii_digit b)) ((not (nat_eq b 39) && not (nat_eq b 34)) && nat_le (length s) 1) (sign_is_so (b ∷ s) x e) in
    let class = both_true (not (is_ascii_alphabetic b)) (not (is_ascii_digit b)) all.0 in
    let rest = both_true (not (nat_eq b 39) && not (nat_eq b 34)) (nat_le (length s) 1) all.1 in
    let marks = both_true (not (nat_eq b 39)) (not (nat_eq b 34)) rest.0 in
    record { letter = class.0; digit = class.1; quote = marks.0; quotes = marks.1; short = rest.1 }

never : (c : Bool) → not c ≡ true → c ≡ true → ⊥
never true n e = cc
never false n e = cc

-- ---- tokens by their first bytes

name_token : (b : ℕ) (s : List ℕ) → is_ascii_alphabetic b ≡ true → IsToken (b ∷ s) → list_all is_in_name s ≡ true
name_token b s a (word c t e p q) = ap (list_all is_in_name) (tails e) ∙ q
name_token b s a (number c t e p q) = absurd (apart b a (ap is_ascii_digit (heads e) ∙ p))
name_token b s a (character_token code i it e) = let x : false ≡ true = sym (ap is_ascii_alphabetic (heads e)) ∙ a in cc
name_token b s a (text t are e) = let x : false ≡ true = sym (ap is_ascii_alphabetic (heads e)) ∙ a in cc
name_token b s a (sign x e) = absurd (never (is_ascii_alphabetic b) (no_other b s x e).letter a)

number_token : (b : ℕ) (s : List ℕ) → is_ascii_digit b ≡ true → IsToken (b ∷ s) → list_all is_ascii_digit s ≡ true
number_token b s d (word c t e p q) = absurd (apart b (ap is_ascii_alphabetic (heads e) ∙ p) d)
number_token b s d (number c t e p q) = ap (list_all is_ascii_digit) (tails e) ∙ q
number_token b s d (character_token code i it e) = let x : false ≡ true = sym (ap is_ascii_digit (heads e)) ∙ d in cc
number_token b s d (text t are e) = let x : false ≡ true = sym (ap is_ascii_digit (heads e)) ∙ d in cc
number_token b s d (sign x e) = absurd (never (is_ascii_digit b) (no_other b s x e).digit d)

record Quoted (s : List ℕ) : Type 0 where
  code : ℕ
  inside : List ℕ
  spelled : IsItem 39 code inside
  is : s ≡ inside ++ 39 ∷ []

quoted_token : (s : List ℕ) → IsToken (39 ∷ s) → Quoted s
quoted_token s (word c t e p q) = let x : false ≡ true = ap is_ascii_alphabetic (heads e) ∙ p in cc
quoted_token s (number c t e p q) = let x : false ≡ true = ap is_ascii_digit (heads e) ∙ p in cc
quoted_token s (character_token code i it e) = record { code = code; inside = i; spelled = it; is = tails e }
quoted_token s (text t are e) = let x : 39 ≡ 34 = heads e in absurd (omega (arith, x))
quoted_token s (sign x e) = absurd (never (nat_eq 39 39) (no_other 39 s x e).quote refl)

record Text (s : List ℕ) : Type 0 where
  inside : List ℕ
  spelled : AreItems inside
  is : s ≡ inside ++ 34 ∷ []

text_token : (s : List ℕ) → IsToken (34 ∷ s) → Text s
text_token s (word c t e p q) = let x : false ≡ true = ap is_ascii_alphabetic (heads e) ∙ p in cc
text_token s (number c t e p q) = let x : false ≡ true = ap is_ascii_digit (heads e) ∙ p in cc
text_token s (character_token code i it e) = let x : 34 ≡ 39 = heads e in absurd (omega (arith, x))
text_token s (text t are e) = record { inside = t; spelled = are; is = tails e }
text_token s (sign x e) = absurd (never (nat_eq 34 34) (no_other 34 s x e).quotes refl)

-- no letter, digit or quote
record IsOther (b : ℕ) : Type 0 where
  letter : is_ascii_alphabetic b ≡ false
  digit : is_ascii_digit b ≡ false
  quote : nat_eq b 39 ≡ false
  quotes : nat_eq b 34 ≡ false

unlike : (b : ℕ) (c : Bool) → c ≡ false → c ≡ true → ⊥
unlike b c f t = let x : false ≡ true = sym f ∙ t in cc

sign_token : (b : ℕ) (s : List ℕ) → IsOther b → IsToken (b ∷ s) → (x : Sign) × (beside (b ∷ s) signs ≡ Some x)
sign_token b s o (word c t e p q) = absurd (unlike b (is_ascii_alphabetic b) o.letter (ap is_ascii_alphabetic (heads e) ∙ p))
sign_token b s o (number c t e p q) = absurd (unlike b (is_ascii_digit b) o.digit (ap is_ascii_digit (heads e) ∙ p))
sign_token b s o (character_token code i it e) = absurd (unlike b (nat_eq b 39) o.quote (ap (λ b. nat_eq b 39) (heads e)))
sign_token b s o (text t are e) = absurd (unlike b (nat_eq b 34) o.quotes (ap (λ b. nat_eq b 34) (heads e)))
sign_token b s o (sign x e) = (x, e)

-- ---- heads

names : (b : ℕ) (s : List ℕ) → is_ascii_alphabetic b ≡ true → IsLongest b s (prefix_len is_in_name s)
names b s a = record {
  within = prefix_len-le-length is_in_name s;
  token = word b (take (prefix_len is_in_name s) s) refl a (row_passes is_in_name s);
  longest = λ n more within t. let x = row_short is_in_name s n within (name_token b (take n s) a t) in omega (arith, more, x);
}

numbers : (b : ℕ) (s : List ℕ) → is_ascii_digit b ≡ true → IsLongest b s (prefix_len is_ascii_digit s)
numbers b s d = record {
  within = prefix_len-le-length is_ascii_digit s;
  token = number b (take (prefix_len is_ascii_digit s) s) refl d (row_passes is_ascii_digit s);
  longest = λ n more within t. let x = row_short is_ascii_digit s n within (number_token b (take n s) d t) in omega (arith, more, x);
}

-- a piece that ends with a byte has so many bytes
piece_size : (n : ℕ) (s i : List ℕ) (c : ℕ) → n ≤ length s → take n s ≡ i ++ c ∷ [] → n ≡ length i + 1
piece_size n s i c h e = sym (length-take-le n s h) ∙ (ap length e ∙ whole_length i c)

going_on : (n : ℕ) (s i : List ℕ) (c : ℕ) → take n s ≡ i ++ c ∷ [] → s ≡ i ++ c ∷ drop n s
going_on n s i c e = split_at n s ∙ (ap (λ t. t ++ drop n s) e ∙ append_assoc i (c ∷ []) (drop n s))

characters_of : (s : List ℕ) (one : Item) → HasCharacter s one.bytes → IsLongest 39 s one.bytes
characters_of s one h = record {
  within = subst (λ k. k ≤ length s) (sym h.size) (subst (λ s. length h.inside + 1 ≤ length s) (sym h.is) (piece_length h.inside h.rest 39));
  token = character_token h.code h.inside h.spelled (ap (λ t. 39 ∷ t) (ap (λ k. take k s) h.size ∙ (ap (take (length h.inside + 1)) h.is ∙ piece_taken h.inside h.rest 39)));
  longest = λ n more within t. longer n more within (quoted_token (take n s) t);
}
  where
    longer : (n : ℕ) → one.bytes < n → n ≤ length s → Quoted (take n s) → ⊥
    longer n more within q =
        let mine : item 39 s ≡ Some (record { code = h.code; bytes = length h.inside }) = ap (item 39) h.is ∙ item_found 39 h.code h.inside (39 ∷ h.rest) h.spelled in
        let its : item 39 s ≡ Some (record { code = q.code; bytes = length q.inside }) = ap (item 39) (going_on n s q.inside 39 q.is) ∙ item_found 39 q.code q.inside (39 ∷ drop n s) q.spelled in
        let same : length h.inside ≡ length q.inside = same_Some (length h.inside) (length q.inside) (ap (option_map (λ (i : Item). i.bytes)) (sym mine ∙ its)) in
        let size = piece_size n s q.inside 39 within q.is in
        let z = h.size in
        omega (arith, more, same, size, z)

characters : (s : List ℕ) (one : Item) → character s ≡ Some one → IsLongest 39 s one.bytes
characters s one e = characters_of s one (character_starts s one e)

texts_of : (s : List ℕ) (t : Codes) → items s 0 ≡ Some t → HasText s t.bytes → IsLongest 34 s t.bytes
texts_of s t e h = record {
  within = subst (λ k. k ≤ length s) (sym h.size) (subst (λ s. length h.inside + 1 ≤ length s) (sym h.is) (piece_length h.inside h.rest 34));
  token = text h.inside h.spelled (ap (λ t. 34 ∷ t) (ap (λ k. take k s) h.size ∙ (ap (take (length h.inside + 1)) h.is ∙ piece_taken h.inside h.rest 34)));
  longest = λ n more within k. longer n more within (text_token (take n s) k);
}
  where
    longer : (n : ℕ) → t.bytes < n → n ≤ length s → Text (take n s) → ⊥
    longer n more within q =
        let its : option_map (λ (t : Codes). t.bytes) (items s 0) ≡ Some (length q.inside + 1) =
        ap (λ s. option_map (λ (t : Codes). t.bytes) (items s 0)) (going_on n s q.inside 34 q.is) ∙ items_found q.inside (drop n s) q.spelled in
        let same : t.bytes ≡ length q.inside + 1 = same_Some t.bytes (length q.inside + 1) (sym (ap (option_map (λ (t : Codes). t.bytes)) e) ∙ its) in
        let size = piece_size n s q.inside 34 within q.is in
        omega (arith, more, same, size)

texts : (s : List ℕ) (t : Codes) → items s 0 ≡ Some t → IsLongest 34 s t.bytes
texts s t e = texts_of s t e (text_starts (length s) s t (omega arith) e)

long_signs : (b : ℕ) (s : List ℕ) (x : Sign) → IsOther b → long_sign b s ≡ Some x → IsLongest b s 1
long_signs b [] x o e = cc
long_signs b (c ∷ s) x o e = record {
  within = omega arith;
  token = sign x e;
  longest = λ n more within t.
      let y = sign_token b (take n (c ∷ s)) o t in
      let short = leb-true (length (take n (c ∷ s))) 1 (no_other b (take n (c ∷ s)) y.0 y.1).short in
      let size = length-take-le n (c ∷ s) within in
      omega (arith, short, size, more);
}

short_signs : (b : ℕ) (s : List ℕ) (x : Sign) → IsOther b → long_sign b s ≡ None → short_sign b ≡ Some x → IsLongest b s 0
short_signs b s x o none e = record { within = omega arith; token = sign x e; longest = λ n more within t. longer s none n more within (sign_token b (take n s) o t) }
  where
    longer : (s : List ℕ) → long_sign b s ≡ None → (n : ℕ) → 0 < n → n ≤ length s → ((y : Sign) × (beside (b ∷ take n s) signs ≡ Some y)) → ⊥
    longer [] none n more within y = omega (arith, more, within)
    longer (c ∷ s) none zero more within y = omega (arith, more)
    longer (c ∷ s) none (suc zero) more within y = let x : None ≡ Some y.0 = sym none ∙ y.1 in cc
    longer (c ∷ s) none (suc (suc n)) more within y =
        let short = leb-true (length (take (suc (suc n)) (c ∷ s))) 1 (no_other b (take (suc (suc n)) (c ∷ s)) y.0 y.1).short in
        let size = length-take-le (suc (suc n)) (c ∷ s) within in
        omega (arith, short, size)

-- ---- all of them

found_more : {x y : Lexeme} {m n : ℕ} → head.Found x m ≡ head.Found y n → m ≡ n
found_more e = cc

pub are_longest : AreLongest
are_longest line b s x more e = blank (is_blank b) refl e
  where
    last : IsOther b → sign_at line b s ≡ head.Found x more → IsLongest b s more
    last o e = long (long_sign b s) refl e
      where
        short : long_sign b s ≡ None → (k : Option Sign) → short_sign b ≡ k → elim k [ Some y ↦ head.Found (lexeme.Plain (kind.Sign y)) 0 | None ↦ head.Fault (fault.BadByte line) ] ≡ head.Found x more → IsLongest b s more
        short none None is e = cc
        short none (Some y) is e = subst (IsLongest b s) (found_more e) (short_signs b s y o none is)

        long : (k : Option Sign) → long_sign b s ≡ k
            → elim k [ Some y ↦ head.Found (lexeme.Plain (kind.Sign y)) 1 | None ↦ elim (short_sign b) [ Some y ↦ head.Found (lexeme.Plain (kind.Sign y)) 0 | None ↦ head.Fault (fault.BadByte line) ] ] ≡ head.Found x more → IsLongest b s more
        long (Some y) is e = subst (IsLongest b s) (found_more e) (long_signs b s y o is)
        long None is e = short is (short_sign b) refl e

    quotes : is_ascii_alphabetic b ≡ false → is_ascii_digit b ≡ false → nat_eq b 39 ≡ false → (c : Bool) → nat_eq b 34 ≡ c → cond c (text_at line s) (sign_at line b s) ≡ head.Found x more → IsLongest b s more
    quotes l d q false is e = last (record { letter = l; digit = d; quote = q; quotes = is }) e
    quotes l d q true is e = by (items s 0) refl e
      where
        by : (o : Option Codes) → items s 0 ≡ o → elim o [ Some t ↦ head.Found (lexeme.Plain (kind.Quoted t.codes)) t.bytes | None ↦ head.Fault (fault.OpenText line) ] ≡ head.Found x more → IsLongest b s more
        by None at e = cc
        by (Some t) at e = let quote : b ≡ 34 = eqb-true b 34 is in subst (λ b. IsLongest b s more) (sym quote) (subst (IsLongest 34 s) (found_more e) (texts s t at))

    quote : is_ascii_alphabetic b ≡ false → is_ascii_digit b ≡ false → (c : Bool) → nat_eq b 39 ≡ c → cond c (character_at line s) (cond (nat_eq b 34) (text_at line s) (sign_at line b s)) ≡ head.Found x more → IsLongest b s more
    quote l d false is e = quotes l d is (nat_eq b 34) refl e
    quote l d true is e = by (character s) refl e
      where
        by : (o : Option Item) → character s ≡ o → elim o [ Some t ↦ head.Found (lexeme.Plain (kind.Letter t.code)) t.bytes | None ↦ head.Fault (fault.OpenText line) ] ≡ head.Found x more → IsLongest b s more
        by None at e = cc
        by (Some t) at e = let mark : b ≡ 39 = eqb-true b 39 is in subst (λ b. IsLongest b s more) (sym mark) (subst (IsLongest 39 s) (found_more e) (characters s t at))

    digits : is_ascii_alphabetic b ≡ false → (c : Bool) → is_ascii_digit b ≡ c → cond c (number_at line b s) (cond (nat_eq b 39) (character_at line s) (cond (nat_eq b 34) (text_at line s) (sign_at line b s))) ≡ head.Found x more → IsLongest b s more
    digits l false is e = quote l is (nat_eq b 39) refl e
    digits l true is e = by (number_in_range (number_value (b ∷ take (prefix_len is_ascii_digit s) s))) e
      where
        by : (o : Option ℤ) → elim o [ Some n ↦ head.Found (lexeme.Plain (kind.Number n)) (prefix_len is_ascii_digit s) | None ↦ head.Fault (fault.NumberTooWide line) ] ≡ head.Found x more → IsLongest b s more
        by None e = cc
        by (Some n) e = subst (IsLongest b s) (found_more e) (numbers b s is)

    letters : (c : Bool) → is_ascii_alphabetic b ≡ c → cond c (name_at b s) (cond (is_ascii_digit b) (number_at line b s) (cond (nat_eq b 39) (character_at line s) (cond (nat_eq b 34) (text_at line s) (sign_at line b s)))) ≡ head.Found x more → IsLongest b s more
    letters false is e = digits is (is_ascii_digit b) refl e
    letters true is e = subst (IsLongest b s) (found_more e) (names b s is)

    comment : (c : Bool) → cond c (head.Gap (prefix_len is_in_line s)) (cond (is_ascii_alphabetic b) (name_at b s) (cond (is_ascii_digit b) (number_at line b s) (cond (nat_eq b 39) (character_at line s) (cond (nat_eq b 34) (text_at line s) (sign_at line b s))))) ≡ head.Found x more → IsLongest b s more
    comment true e = cc
    comment false e = letters (is_ascii_alphabetic b) refl e

    blank : (c : Bool) → is_blank b ≡ c → cond c (head.Gap 0) (cond (nat_eq b 37) (head.Gap (prefix_len is_in_line s)) (cond (is_ascii_alphabetic b) (name_at b s) (cond (is_ascii_digit b) (number_at line b s) (cond (nat_eq b 39) (character_at line s) (cond (nat_eq b 34) (text_at line s) (sign_at line b s)))))) ≡ head.Found x more → IsLongest b s more
    blank true is e = cc
    blank false is e = comment (nat_eq b 37) e
