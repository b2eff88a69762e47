-- Literals as they are read.
use Rattle.std.proofs.Common.{◌≡◌, ℕ, zero, suc, ◌+◌, ◌-◌, ◌*◌, ◌^◌, ◌<◌, ◌≤◌, ℤ, pos, negsuc, neg_ℤ, Bool, true, false, cond, ◌&&◌, List, [], ◌∷◌, length, drop, take, get_or, drop-cons, Option, Some, None, refl, sym, ap, ◌∙◌, arith, option_map}
use Rattle.std.specs.Prelude.{◌==◌, nat_lt, if◌then◌else◌}
use Rattle.std.specs.List.{fold, list_all}
use Rattle.std.specs.Char.{is_ascii_digit}
use Rattle.std.proofs.lemmas.Bool.{le-ltb, ltb-false, ne_eqb}
use Rattle.flow_value.specs.Scalar.{fits_64}
use Rattle.if1_graph.specs.Tables.{◌>>=◌, beside}
use Rattle.if1_graph.specs.Literals.{digits_value, whole, integer, code, item, escapes, before_quote, character}
use Rattle.if1_read.specs.Digits.{in_64_bits, if_small, fitting, with_sign, plain_item, hex_code, ended_item}

abbrev pub with_digit : ℕ → ℕ → ℕ
with_digit n d = n * 10 + (d - 48)

grows : (n : ℕ) (ds : List ℕ) → n ≤ fold with_digit n ds
grows n [] = omega arith
grows n (d ∷ ds) = let h = grows (with_digit n d) ds in omega (arith, h)

too_large : (n : ℕ) → 2 ^ 64 ≤ n → None ≡ in_64_bits n
too_large n h = let t : nat_lt n (2 ^ 64) ≡ false = le-ltb n (2 ^ 64) h in ap (λ b. if b then Some n else None) (sym t)

-- a number whose front is too large is too large
pub front_too_large : (whole v i : ℕ) (ds : List ℕ) → whole ≡ fold with_digit v (drop i ds) → i < length ds
    → 18446744073709551615 < with_digit v (get_or ds i 0) → None ≡ in_64_bits whole
front_too_large whole v i ds e inside large =
    let h = grows (with_digit v (get_or ds i 0)) (drop (suc i) ds) in
    let f : whole ≡ fold with_digit (with_digit v (get_or ds i 0)) (drop (suc i) ds) = e ∙ ap (fold with_digit v) (drop-cons ds i 0 inside) in
    too_large whole (omega (arith, h, f, large))

large_pos : (b : Bool) (n : ℕ) → nat_lt n (2 ^ 64) ≡ b → fitting (pos n) ≡ with_sign false (cond b (Some n) None)
large_pos true n e = refl
large_pos false n e = ap (λ (b : Bool). cond b (Some (pos n)) None) (le-ltb n (2 ^ 63) (omega (arith, ltb-false n (2 ^ 64) e)))

large_neg : (b : Bool) (n : ℕ) → nat_lt n (2 ^ 64) ≡ b → fitting (neg_ℤ (pos n)) ≡ with_sign true (cond b (Some n) None)
large_neg true n e = refl
large_neg false zero e = absurd (omega (arith, ltb-false 0 (2 ^ 64) e))
large_neg false (suc n) e = ap (λ (b : Bool). cond b (Some (negsuc n)) None) (le-ltb n (2 ^ 63) (omega (arith, ltb-false (suc n) (2 ^ 64) e)))

plain_sign : (o : Option ℕ) → (option_map pos o >>= λ n. if fits_64 n then Some n else None) ≡ with_sign false (if_small o)
plain_sign None = refl
plain_sign (Some n) = large_pos (nat_lt n (2 ^ 64)) n refl

minus_sign : (o : Option ℕ) → (option_map (λ n. neg_ℤ (pos n)) o >>= λ n. if fits_64 n then Some n else None) ≡ with_sign true (if_small o)
minus_sign None = refl
minus_sign (Some n) = large_neg (nat_lt n (2 ^ 64)) n refl

abbrev fits : Option ℤ → Option ℤ
fits o = o >>= λ n. if fits_64 n then Some n else None

pub integer_minus : (text : List ℕ) → 0 < length text → (get_or text 0 0 == 45) ≡ true → integer text ≡ with_sign true (if_small (whole (drop 1 text)))
integer_minus [] h e = absurd (omega (arith, h))
integer_minus (c ∷ cs) h e =
    ap (λ (b : Bool). fits (cond b (option_map (λ n. neg_ℤ (pos n)) (whole cs)) (option_map pos (whole (c ∷ cs))))) e ∙ minus_sign (whole cs)

pub integer_plain : (text : List ℕ) → 0 < length text → (get_or text 0 0 == 45) ≡ false → integer text ≡ with_sign false (if_small (whole text))
integer_plain [] h e = absurd (omega (arith, h))
integer_plain (c ∷ cs) h e =
    ap (λ (b : Bool). fits (cond b (option_map (λ n. neg_ℤ (pos n)) (whole cs)) (option_map pos (whole (c ∷ cs))))) e ∙ plain_sign (whole (c ∷ cs))

pub item_1 : (xs : List ℕ) → length xs ≡ 1 → item xs ≡ plain_item (get_or xs 0 0)
item_1 [] h = absurd (omega (arith, h))
item_1 (c ∷ []) h = refl
item_1 (c ∷ d ∷ xs) h = absurd (omega (arith, h))

pub item_2 : (xs : List ℕ) → length xs ≡ 2 → item xs ≡ (if get_or xs 0 0 == 92 then beside (get_or xs 1 0) escapes else None)
item_2 [] h = absurd (omega (arith, h))
item_2 (c ∷ []) h = absurd (omega (arith, h))
item_2 (c ∷ d ∷ []) h = refl
item_2 (c ∷ d ∷ e ∷ xs) h = absurd (omega (arith, h))

pub item_4 : (xs : List ℕ) → length xs ≡ 4 → item xs ≡ (if (get_or xs 0 0 == 92) && (get_or xs 1 0 == 120) then hex_code (get_or xs 2 0) (get_or xs 3 0) else None)
item_4 [] h = absurd (omega (arith, h))
item_4 (c ∷ []) h = absurd (omega (arith, h))
item_4 (c ∷ d ∷ []) h = absurd (omega (arith, h))
item_4 (c ∷ d ∷ e ∷ []) h = absurd (omega (arith, h))
item_4 (c ∷ d ∷ e ∷ f ∷ []) h = refl
item_4 (c ∷ d ∷ e ∷ f ∷ g ∷ xs) h = absurd (omega (arith, h))

pub item_other : (xs : List ℕ) → (length xs ≡ 1 → ⊥) → (length xs ≡ 2 → ⊥) → (length xs ≡ 4 → ⊥) → item xs ≡ None
item_other [] a b c = refl
item_other (x ∷ []) a b c = absurd (a refl)
item_other (x ∷ y ∷ []) a b c = absurd (b refl)
item_other (x ∷ y ∷ z ∷ []) a b c = refl
item_other (x ∷ y ∷ z ∷ w ∷ []) a b c = absurd (c refl)
item_other (x ∷ y ∷ z ∷ w ∷ v ∷ xs) a b c = refl

-- a text before its last byte
quote_more : (c d : ℕ) (cs : List ℕ) → before_quote (d ∷ cs) ≡ (if get_or (d ∷ cs) (length cs) 0 == 39 then Some (take (length cs) (d ∷ cs)) else None) →
    before_quote (c ∷ d ∷ cs) ≡ (if get_or (d ∷ cs) (length cs) 0 == 39 then Some (c ∷ take (length cs) (d ∷ cs)) else None)
quote_more c d cs e = ap (λ (o : Option (List ℕ)). o >>= λ text. Some (c ∷ text)) e ∙ after (get_or (d ∷ cs) (length cs) 0 == 39) (take (length cs) (d ∷ cs))
  where
    after : (b : Bool) (xs : List ℕ) → ((cond b (Some xs) None) >>= λ text. Some (c ∷ text)) ≡ cond b (Some (c ∷ xs)) None
    after true xs = refl
    after false xs = refl

pub quote_is : (c : ℕ) (cs : List ℕ) → before_quote (c ∷ cs) ≡ (if get_or (c ∷ cs) (length cs) 0 == 39 then Some (take (length cs) (c ∷ cs)) else None)
quote_is c [] = refl
quote_is c (d ∷ cs) = quote_more c d cs (quote_is d cs)

pub ended_is : (text : List ℕ) → 0 < length text → ended_item text ≡ (if get_or text (length text - 1) 0 == 39 then item (take (length text - 1) text) else None)
ended_is [] h = absurd (omega (arith, h))
ended_is (c ∷ cs) h =
    let one : suc (length cs) - 1 ≡ length cs = omega arith in
    ap (λ (o : Option (List ℕ)). o >>= item) (quote_is c cs)
    ∙ after (get_or (c ∷ cs) (length cs) 0 == 39) (take (length cs) (c ∷ cs))
    ∙ ap (λ (n : ℕ). if get_or (c ∷ cs) n 0 == 39 then item (take n (c ∷ cs)) else None) (sym one)
  where
    after : (b : Bool) (xs : List ℕ) → ((cond b (Some xs) None) >>= item) ≡ cond b (item xs) None
    after true xs = refl
    after false xs = refl

pub character_1 : (xs : List ℕ) → length xs ≡ 1 → character xs ≡ code (get_or xs 0 0)
character_1 [] h = absurd (omega (arith, h))
character_1 (c ∷ []) h = refl
character_1 (c ∷ d ∷ xs) h = absurd (omega (arith, h))

pub character_2 : (xs : List ℕ) → 1 < length xs → character xs ≡ (if get_or xs 0 0 == 39 then ended_item (drop 1 xs) else None)
character_2 [] h = absurd (omega (arith, h))
character_2 (c ∷ []) h = absurd (omega (arith, h))
character_2 (c ∷ d ∷ xs) h = refl

-- ---- by length

pub whole_0 : (xs : List ℕ) → length xs ≡ 0 → whole xs ≡ None
whole_0 [] h = refl
whole_0 (x ∷ xs) h = absurd (omega (arith, h))

whole_if : (b : Bool) (x : ℕ) (xs : List ℕ) → list_all is_ascii_digit (x ∷ xs) ≡ b → whole (x ∷ xs) ≡ (if b then Some (digits_value (x ∷ xs)) else None)
whole_if b x xs e = ap (λ (b : Bool). if b then Some (digits_value (x ∷ xs)) else None) e

pub whole_digits : (xs : List ℕ) → 0 < length xs → list_all is_ascii_digit xs ≡ true → whole xs ≡ Some (digits_value xs)
whole_digits [] h e = absurd (omega (arith, h))
whole_digits (x ∷ xs) h e = whole_if true x xs e

pub whole_other : (xs : List ℕ) → 0 < length xs → list_all is_ascii_digit xs ≡ false → whole xs ≡ None
whole_other [] h e = absurd (omega (arith, h))
whole_other (x ∷ xs) h e = whole_if false x xs e

pub integer_0 : (xs : List ℕ) → length xs ≡ 0 → integer xs ≡ None
integer_0 [] h = refl
integer_0 (x ∷ xs) h = absurd (omega (arith, h))

pub character_0 : (xs : List ℕ) → length xs ≡ 0 → character xs ≡ None
character_0 [] h = refl
character_0 (x ∷ xs) h = absurd (omega (arith, h))

pub ended_no : (text : List ℕ) → 0 < length text → (get_or text (length text - 1) 0 ≡ 39 → ⊥) → None ≡ ended_item text
ended_no text h ne =
    sym (ended_is text h ∙ ap (λ (b : Bool). if b then item (take (length text - 1) text) else None) (ne_eqb (get_or text (length text - 1) 0) 39 ne))
