-- Items, texts and signs at the head of a text.
use Rattle.std.proofs.Common.{◌≡◌, ◌<◌, ◌≤◌, ◌+◌, ◌-◌, ◌⊎◌, inl, inr, ℕ, zero, suc, Bool, true, false, not, ◌&&◌, ◌||◌, cond, nat_eq, nat_le, List, [], ◌∷◌, ◌++◌, length, take, drop, Option, Some, None, slice_get, option_map, bytes_eq, if◌then◌else◌, refl, sym, ap, subst, ◌∙◌, append_assoc, arith}
use Rattle.std.specs.List.{list_all, prefix_len}
use Rattle.std.specs.Char.{is_ascii_alphabetic, is_ascii_digit}
use Rattle.std.proofs.lemmas.Bool.{eqb-true}
use Rattle.std.proofs.lemmas.Option.{same_Some}
use Rattle.std.proofs.lemmas.List.{length-append}
use Rattle.std.proofs.lemmas.Slice.Eq.{bytes_eq-Decides}
use Rattle.sisal_lex.specs.Words.{beside}
use Rattle.sisal_lex.specs.Signs.{signs}
use Rattle.sisal_lex.specs.Quotes.{escaped, hex_digit, hex_code, hex_item, escape, item, items, then_items, character, character_closed}
use Rattle.sisal_lex.specs.Spelling.{IsItem, itself, letter, digits, AreItems, no_item, more_items}
use Rattle.sisal_lex.specs.declared.quotes.Item.{Item}
use Rattle.sisal_lex.specs.declared.quotes.Codes.{Codes}
use Rattle.sisal_lex.specs.declared.token.Sign.{Sign}
use Rattle.sisal_lex.proofs.Grown.{grown, first_item}

-- ---- booleans

pub both_true : (a b : Bool) → (a && b) ≡ true → (a ≡ true) × (b ≡ true)
both_true true b e = (refl, e)
both_true false b e = cc

pub either_true : (a b : Bool) → (a || b) ≡ true → (a ≡ true) ⊎ (b ≡ true)
either_true true b e = inl refl
either_true false b e = inr e

-- ---- rows of bytes of a class

pub row_passes : (p : ℕ → Bool) (xs : List ℕ) → list_all p (take (prefix_len p xs) xs) ≡ true
row_passes p [] = refl
row_passes p (x ∷ xs) = by (row_passes p xs) (p x) refl
  where
    one : 1 + prefix_len p xs ≡ suc (prefix_len p xs)
    one = omega arith

    by : list_all p (take (prefix_len p xs) xs) ≡ true → (b : Bool) → p x ≡ b → list_all p (take (cond b (1 + prefix_len p xs) 0) (x ∷ xs)) ≡ true
    by rest true e = ap (λ k. list_all p (take k (x ∷ xs))) one ∙ (ap (λ b. b && list_all p (take (prefix_len p xs) xs)) e ∙ rest)
    by rest false e = refl

one_longer : (b : Bool) (n k : ℕ) → b ≡ true → n ≤ k → suc n ≤ cond b (1 + k) 0
one_longer true n k e h = omega (arith, h)
one_longer false n k e h = cc

pub row_short : (p : ℕ → Bool) (xs : List ℕ) (n : ℕ) → n ≤ length xs → list_all p (take n xs) ≡ true → n ≤ prefix_len p xs
row_short p [] zero h e = omega arith
row_short p [] (suc n) h e = absurd (omega (arith, h))
row_short p (x ∷ xs) zero h e = omega arith
row_short p (x ∷ xs) (suc n) h e =
    let split = both_true (p x) (list_all p (take n xs)) e in
    one_longer (p x) n (prefix_len p xs) split.0 (row_short p xs n (omega (arith, h)) split.1)

-- ---- one piece at the head of a text

pub piece_taken : (i r : List ℕ) (c : ℕ) → take (length i + 1) (i ++ c ∷ r) ≡ i ++ c ∷ []
piece_taken [] r c = refl
piece_taken (x ∷ i) r c = let e : length (x ∷ i) + 1 ≡ suc (length i + 1) = omega arith in ap (λ n. take n (x ∷ i ++ c ∷ r)) e ∙ ap (λ t. x ∷ t) (piece_taken i r c)

pub piece_length : (i r : List ℕ) (c : ℕ) → length i + 1 ≤ length (i ++ c ∷ r)
piece_length [] r c = omega arith
piece_length (x ∷ i) r c = let more = piece_length i r c in omega (arith, more)

pub whole_length : (i : List ℕ) (c : ℕ) → length (i ++ c ∷ []) ≡ length i + 1
whole_length [] c = refl
whole_length (x ∷ i) c = let more = whole_length i c in omega (arith, more)

pub split_at : (n : ℕ) (s : List ℕ) → s ≡ take n s ++ drop n s
split_at zero s = refl
split_at (suc n) [] = refl
split_at (suc n) (x ∷ s) = ap (λ t. x ∷ t) (split_at n s)

-- what stands behind it
behind_is : (i rest : List ℕ) (b : ℕ) → slice_get (i ++ rest) (length i) ≡ Some b → (more : List ℕ) × (rest ≡ b ∷ more)
behind_is [] [] b e = cc
behind_is [] (x ∷ rest) b e = let same : x ≡ b = same_Some x b e in (rest, ap (λ x. x ∷ rest) same)
behind_is (x ∷ i) rest b e = behind_is i rest b e

dropped : (i rest : List ℕ) → drop (length i) (i ++ rest) ≡ rest
dropped [] rest = refl
dropped (x ∷ i) rest = dropped i rest

-- ---- items

-- the text begins with the item
pub record StartsWith (quote : ℕ) (s : List ℕ) (one : Item) : Type 0 where
  pub bytes : List ℕ
  pub rest : List ℕ
  pub is : s ≡ bytes ++ rest
  pub spelled : IsItem quote one.code bytes
  pub size : length bytes ≡ one.bytes

hex_starts : (quote : ℕ) (s : List ℕ) (one : Item) → hex_item s ≡ Some one → StartsWith quote (92 ∷ 120 ∷ s) one
hex_starts quote [] one e = cc
hex_starts quote (h ∷ []) one e = cc
hex_starts quote (h ∷ l ∷ s) one e = by (hex_code (hex_digit h) (hex_digit l)) refl e
  where
    by : (o : Option ℕ) → hex_code (hex_digit h) (hex_digit l) ≡ o → option_map (λ code. record { code = code; bytes = 4 }) o ≡ Some one → StartsWith quote (92 ∷ 120 ∷ h ∷ l ∷ s) one
    by None is e = cc
    by (Some code) is e =
        let made : Item = record { code = code; bytes = 4 } in
        let same : made ≡ one = same_Some made one e in
        subst (StartsWith quote (92 ∷ 120 ∷ h ∷ l ∷ s)) same (record { bytes = 92 ∷ 120 ∷ h ∷ l ∷ []; rest = s; is = refl; spelled = digits h l is refl; size = refl })

letter_starts : (quote b : ℕ) (s : List ℕ) (one : Item) → nat_eq b 120 ≡ false → (o : Option ℕ) → escaped b ≡ o → option_map (λ code. record { code = code; bytes = 2 }) o ≡ Some one → StartsWith quote (92 ∷ b ∷ s) one
letter_starts quote b s one other None is e = cc
letter_starts quote b s one other (Some code) is e =
    let made : Item = record { code = code; bytes = 2 } in
    let same : made ≡ one = same_Some made one e in
    subst (StartsWith quote (92 ∷ b ∷ s)) same (record { bytes = 92 ∷ b ∷ []; rest = s; is = refl; spelled = letter b other is refl; size = refl })

escape_starts : (quote : ℕ) (s : List ℕ) (one : Item) → escape s ≡ Some one → StartsWith quote (92 ∷ s) one
escape_starts quote [] one e = cc
escape_starts quote (b ∷ s) one e = by (nat_eq b 120) refl e
  where
    by : (c : Bool) → nat_eq b 120 ≡ c → cond c (hex_item s) (option_map (λ code. record { code = code; bytes = 2 }) (escaped b)) ≡ Some one → StartsWith quote (92 ∷ b ∷ s) one
    by true is e = let x : b ≡ 120 = eqb-true b 120 is in subst (λ b. StartsWith quote (92 ∷ b ∷ s) one) (sym x) (hex_starts quote s one e)
    by false is e = letter_starts quote b s one is (escaped b) refl e

pub item_starts : (quote : ℕ) (s : List ℕ) (one : Item) → item quote s ≡ Some one → StartsWith quote s one
item_starts quote [] one e = cc
item_starts quote (b ∷ s) one e = by (nat_eq b 92) refl e
  where
    plain : (c : Bool) → (nat_le 32 b && nat_le b 126 && not (nat_eq b quote)) ≡ c → nat_eq b 92 ≡ false → cond c (Some (record { code = b; bytes = 1 })) None ≡ Some one → StartsWith quote (b ∷ s) one
    plain false is other e = cc
    plain true is other e =
        let made : Item = record { code = b; bytes = 1 } in
        let same : made ≡ one = same_Some made one e in
        subst (StartsWith quote (b ∷ s)) same (record { bytes = b ∷ []; rest = s; is = refl; spelled = itself other is refl; size = refl })

    by : (c : Bool) → nat_eq b 92 ≡ c → cond c (escape s) (cond (nat_le 32 b && nat_le b 126 && not (nat_eq b quote)) (Some (record { code = b; bytes = 1 })) None) ≡ Some one → StartsWith quote (b ∷ s) one
    by true is e = let x : b ≡ 92 = eqb-true b 92 is in subst (λ b. StartsWith quote (b ∷ s) one) (sym x) (escape_starts quote s one e)
    by false is e = plain (nat_le 32 b && nat_le b 126 && not (nat_eq b quote)) refl is e

-- an item at the head of a text is found
pub item_found : (quote code : ℕ) (i rest : List ℕ) → IsItem quote code i → item quote (i ++ rest) ≡ Some (record { code = code; bytes = length i })
item_found quote code i rest (itself other is e) =
    subst (λ i. item quote (i ++ rest) ≡ Some (record { code = code; bytes = length i })) (sym e)
    (ap (λ c. cond c (escape rest) (cond (nat_le 32 code && nat_le code 126 && not (nat_eq code quote)) (Some (record { code = code; bytes = 1 })) None)) other
    ∙ ap (λ c. cond c (Some (record { code = code; bytes = 1 })) None) is)
item_found quote code i rest (letter b other is e) =
    subst (λ i. item quote (i ++ rest) ≡ Some (record { code = code; bytes = length i })) (sym e)
    (ap (λ c. cond c (hex_item rest) (option_map (λ code. record { code = code; bytes = 2 }) (escaped b))) other
    ∙ ap (option_map (λ code. record { code = code; bytes = 2 })) is)
item_found quote code i rest (digits h l is e) =
    subst (λ i. item quote (i ++ rest) ≡ Some (record { code = code; bytes = length i })) (sym e)
    (ap (option_map (λ code. record { code = code; bytes = 4 })) is)

-- ---- texts

-- the first byte of an item between two of `"` is no such byte
not_closed : (code : ℕ) (i rest : List ℕ) → IsItem 34 code i → (b : ℕ) × (s : List ℕ) × (i ++ rest ≡ b ∷ s) × (nat_eq b 34 ≡ false)
not_closed code i rest (itself other is e) =
    let no : not (nat_eq code 34) ≡ true = (both_true (nat_le 32 code && nat_le code 126) (not (nat_eq code 34)) is).1 in
    (code, rest, ap (λ i. i ++ rest) e, opposite (nat_eq code 34) no)
  where
    opposite : (c : Bool) → not c ≡ true → c ≡ false
    opposite true e = cc
    opposite false e = refl
not_closed code i rest (letter b other is e) = (92, b ∷ rest, ap (λ i. i ++ rest) e, refl)
not_closed code i rest (digits h l is e) = (92, 120 ∷ h ∷ l ∷ rest, ap (λ i. i ++ rest) e, refl)

some_bytes : (code : ℕ) (i : List ℕ) → IsItem 34 code i → 1 ≤ length i
some_bytes code i (itself other is e) = subst (λ i. 1 ≤ length i) (sym e) (omega arith)
some_bytes code i (letter b other is e) = subst (λ i. 1 ≤ length i) (sym e) (omega arith)
some_bytes code i (digits h l is e) = subst (λ i. 1 ≤ length i) (sym e) (omega arith)

-- one item, and then what stands behind it
step : (code : ℕ) (i rest : List ℕ) → IsItem 34 code i → items (i ++ rest) 0 ≡ grown (code ∷ []) (length i) (items rest 0)
step code i rest one =
    let h = not_closed code i rest one in
    let found : item 34 (h.0 ∷ h.1) ≡ Some (record { code = code; bytes = length i }) = ap (item 34) (sym h.2) ∙ item_found 34 code i rest one in
    ap (λ s. items s 0) h.2
    ∙ (first_item h.0 h.1 (record { code = code; bytes = length i }) h.3 found (some_bytes code i one)
    ∙ ap (λ s. grown (code ∷ []) (length i) (items s 0)) (ap (drop (length i)) (sym h.2) ∙ dropped i rest))

-- the bytes of a text with more bytes before it
more_bytes : (cs : List ℕ) (n : ℕ) (o : Option Codes) (k : ℕ) → option_map (λ t. t.bytes) o ≡ Some k → option_map (λ t. t.bytes) (grown cs n o) ≡ Some (n + k)
more_bytes cs n None k e = cc
more_bytes cs n (Some t) k e = ap (λ m. Some (n + m)) (same_Some t.bytes k e)

pub items_found : (s rest : List ℕ) → AreItems s → option_map (λ t. t.bytes) (items (s ++ 34 ∷ rest) 0) ≡ Some (length s + 1)
items_found _ rest no_item = refl
items_found _ rest (more_items code t ts one others) =
    let size : length t + (length ts + 1) ≡ length (t ++ ts) + 1 = let e = length-append t ts in omega (arith, e) in
    ap (λ s. option_map (λ t. t.bytes) (items s 0)) (append_assoc t ts (34 ∷ rest))
    ∙ (ap (option_map (λ t. t.bytes)) (step code t (ts ++ 34 ∷ rest) one)
    ∙ (more_bytes (code ∷ []) (length t) (items (ts ++ 34 ∷ rest) 0) (length ts + 1) (items_found ts rest others) ∙ ap Some size))

-- a text that is found is one of items
pub record HasText (s : List ℕ) (bytes : ℕ) : Type 0 where
  pub inside : List ℕ
  pub rest : List ℕ
  pub is : s ≡ inside ++ 34 ∷ rest
  pub spelled : AreItems inside
  pub size : bytes ≡ length inside + 1

pub text_starts : (n : ℕ) (s : List ℕ) (t : Codes) → length s ≤ n → items s 0 ≡ Some t → HasText s t.bytes
text_starts n [] t h e = cc
text_starts zero (b ∷ s) t h e = absurd (omega (arith, h))
text_starts (suc n) (b ∷ s) t h e = by (text_starts n) (nat_eq b 34) refl e
  where
    closed : nat_eq b 34 ≡ true → Some (record { codes = []; bytes = 1 }) ≡ Some t → HasText (b ∷ s) t.bytes
    closed is e =
        let made : Codes = record { codes = []; bytes = 1 } in
        let same : made ≡ t = same_Some made t e in
        let quote : b ≡ 34 = eqb-true b 34 is in
        record { inside = []; rest = s; is = ap (λ b. b ∷ s) quote; spelled = no_item; size = sym (ap (λ (t : Codes). t.bytes) same) }

    behind : ((s : List ℕ) (t : Codes) → length s ≤ n → items s 0 ≡ Some t → HasText s t.bytes) → (one : Item) (w : StartsWith 34 (b ∷ s) one) → (o : Option Codes) → items w.rest 0 ≡ o → grown (one.code ∷ []) (length w.bytes) o ≡ Some t → HasText (b ∷ s) t.bytes
    behind later one w None is e = cc
    behind later one w (Some u) is e =
        let some = some_bytes one.code w.bytes w.spelled in
        let both : length (b ∷ s) ≡ length w.bytes + length w.rest = ap length w.is ∙ length-append w.bytes w.rest in
        let more = later w.rest u (omega (arith, h, some, both)) is in
        let made : Codes = record { codes = one.code ∷ u.codes; bytes = length w.bytes + u.bytes } in
        let same : length w.bytes + u.bytes ≡ t.bytes = ap (λ (t : Codes). t.bytes) (same_Some made t e) in
        let sum = length-append w.bytes more.inside in
        record {
          inside = w.bytes ++ more.inside;
          rest = more.rest;
          is = w.is ∙ (ap (λ r. w.bytes ++ r) more.is ∙ sym (append_assoc w.bytes more.inside (34 ∷ more.rest)));
          spelled = more_items one.code w.bytes more.inside w.spelled more.spelled;
          size = let m = more.size in omega (arith, same, m, sum);
        }

    open_yet : ((s : List ℕ) (t : Codes) → length s ≤ n → items s 0 ≡ Some t → HasText s t.bytes) → (o : Option Item) → item 34 (b ∷ s) ≡ o → then_items o (items s) ≡ Some t → items (b ∷ s) 0 ≡ Some t → HasText (b ∷ s) t.bytes
    open_yet later None is e all = cc
    open_yet later (Some one) is e all =
        let w = item_starts 34 (b ∷ s) one is in
        behind later one w (items w.rest 0) refl (sym (step one.code w.bytes w.rest w.spelled) ∙ (ap (λ s. items s 0) (sym w.is) ∙ all))

    by : ((s : List ℕ) (t : Codes) → length s ≤ n → items s 0 ≡ Some t → HasText s t.bytes) → (c : Bool) → nat_eq b 34 ≡ c → cond c (Some (record { codes = []; bytes = 1 })) (then_items (item 34 (b ∷ s)) (items s)) ≡ Some t → HasText (b ∷ s) t.bytes
    by later true is all = closed is all
    by later false is all = open_yet later (item 34 (b ∷ s)) refl all e

-- ---- characters

pub record HasCharacter (s : List ℕ) (bytes : ℕ) : Type 0 where
  pub code : ℕ
  pub inside : List ℕ
  pub rest : List ℕ
  pub is : s ≡ inside ++ 39 ∷ rest
  pub spelled : IsItem 39 code inside
  pub size : bytes ≡ length inside + 1

pub character_starts : (s : List ℕ) (one : Item) → character s ≡ Some one → HasCharacter s one.bytes
character_starts s one e = by (item 39 s) refl e
  where
    closed : (i : Item) (w : StartsWith 39 s i) (b : ℕ) → slice_get s i.bytes ≡ Some b → (c : Bool) → nat_eq b 39 ≡ c → cond c (Some (record { code = i.code; bytes = i.bytes + 1 })) None ≡ Some one → HasCharacter s one.bytes
    closed i w b at false is e = cc
    closed i w b at true is e =
        let made : Item = record { code = i.code; bytes = i.bytes + 1 } in
        let same : i.bytes + 1 ≡ one.bytes = ap (λ (t : Item). t.bytes) (same_Some made one e) in
        let there : slice_get (w.bytes ++ w.rest) (length w.bytes) ≡ Some b = ap (λ t. slice_get t (length w.bytes)) (sym w.is) ∙ (ap (slice_get s) w.size ∙ at) in
        let r = behind_is w.bytes w.rest b there in
        let quote : b ≡ 39 = eqb-true b 39 is in
        let z = w.size in
        record {
          code = i.code;
          inside = w.bytes;
          rest = r.0;
          is = w.is ∙ (ap (λ t. w.bytes ++ t) r.1 ∙ ap (λ b. w.bytes ++ b ∷ r.0) quote);
          spelled = w.spelled;
          size = omega (arith, same, z);
        }

    behind : (i : Item) (w : StartsWith 39 s i) (o : Option ℕ) → slice_get s i.bytes ≡ o
        → elim o [ None ↦ None | Some b ↦ if nat_eq b 39 then Some (record { code = i.code; bytes = i.bytes + 1 }) else None ] ≡ Some one → HasCharacter s one.bytes
    behind i w None at e = cc
    behind i w (Some b) at e = closed i w b at (nat_eq b 39) refl e

    by : (o : Option Item) → item 39 s ≡ o → elim o [ None ↦ None | Some i ↦ character_closed s i ] ≡ Some one → HasCharacter s one.bytes
    by None is e = cc
    by (Some i) is e = behind i (item_starts 39 s i is) (slice_get s i.bytes) refl e

-- ---- signs

-- no letter, digit or quote begins it, and it has two bytes at most
abbrev pub is_like_sign : List ℕ → Bool
is_like_sign [] = false
is_like_sign (b ∷ s) = (not (is_ascii_alphabetic b) && not (is_ascii_digit b)) && ((not (nat_eq b 39) && not (nat_eq b 34)) && nat_le (length s) 1)

signs_are_so : list_all (λ r. is_like_sign r.0) signs ≡ true
signs_are_so = refl

among : (t : List ℕ) (rows : List (List ℕ × Sign)) (x : Sign) → list_all (λ r. is_like_sign r.0) rows ≡ true → beside t rows ≡ Some x → is_like_sign t ≡ true
among t [] x all e = cc
among t (row ∷ rows) x all e =
    let split = both_true (is_like_sign row.0) (list_all (λ r. is_like_sign r.0) rows) all in
    by split.0 (among t rows x split.1) (bytes_eq row.0 t) refl e
  where
    by : is_like_sign row.0 ≡ true → (beside t rows ≡ Some x → is_like_sign t ≡ true) → (c : Bool) → bytes_eq row.0 t ≡ c → cond c (Some row.1) (beside t rows) ≡ Some x → is_like_sign t ≡ true
    by here rest true is e = ap is_like_sign (sym ((bytes_eq-Decides row.0 t).0 is)) ∙ here
    by here rest false is e = rest e

pub sign_is_so : (t : List ℕ) (x : Sign) → beside t signs ≡ Some x → is_like_sign t ≡ true
sign_is_so t x e = among t signs x signs_are_so e
