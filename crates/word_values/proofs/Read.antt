-- What a text spells at a type belongs to it.
use Rattle.std.proofs.Common.{◌≡◌, ℕ, zero, suc, ◌-◌, ◌<◌, ◌≤◌, Bool, true, false, ◌&&◌, ◌||◌, List, [], ◌∷◌, map, length, Option, Some, None, refl, sym, subst, arith, if◌then◌else◌, ◌==◌}
use Rattle.std.specs.Prelude.{nat_le, pos}
use Rattle.std.specs.List.{list_all}
use Rattle.std.proofs.lemmas.Bool.{leb-true, le-leb, lt-ltb}
use Rattle.std.proofs.lemmas.Bool.Decides.{nat_tests}
use Rattle.flow_value.specs.Bounds.{bounded, is_few, is_within}
use Rattle.flow_value.specs.Scalar.{fits_64}
use Rattle.flow_value.specs.Well.{is_well}
use Rattle.flow_value.specs.declared.cause.Cause.TheVariants as cause
use Rattle.flow_value.specs.declared.value.Val.{Val}
use Rattle.flow_value.specs.declared.value.Val.TheVariants as val
use Rattle.flow_value.specs.declared.ty.Ty.{Ty}
use Rattle.flow_value.specs.declared.ty.Ty.TheVariants as type
use Rattle.value_text.specs.Tokens.{past_blanks, is_digit, is_plain, escape_of, hex_digit}
use Rattle.value_text.specs.Reading.{no_gap}
use Rattle.value_text.specs.Grammar.{Item, itself, escaped, coded, Values, FieldValues, CharacterItem, Spelling, Alternative, error, error_because, integer, yes, no, character, nil, array, text, stream, fields, union, PartAt}
use Rattle.typed_rows.specs.Rows.{Of, AreOf}
use Rattle.typed_rows.proofs.ValueKinds.{of_int, of_bool, of_char, of_null, of_arr, of_stream, of_error}
use Rattle.typed_rows.proofs.Rows.{union_well, record_well}
use Rattle.word_values.specs.Laws.{IsReadOfType, AreWordsOfTypes}

-- ---- characters

-- what one of several tests gives is small
either_small : (b : Bool) (k c : ℕ) (o : Option ℕ) → (b ≡ true → k < 128) → (if b then Some k else o) ≡ Some c → (o ≡ Some c → c < 128) → c < 128
either_small true k c o h e rest = subst (λ n. n < 128) (same e) (h refl)
  where
    same : Some k ≡ Some c → k ≡ c
    same e = cc
either_small false k c o h e rest = rest e

escapes_small : (d c : ℕ) → escape_of d ≡ Some c → c < 128
escapes_small d c e =
    either_small (d == 110) 10 c _ (λ b. omega arith) e
    (λ e. either_small (d == 116) 9 c _ (λ b. omega arith) e
    (λ e. either_small (d == 114) 13 c _ (λ b. omega arith) e
    (λ e. either_small ((d == 92) || (d == 39) || (d == 34)) d c None (quotes d) e (λ e. absurd cc))))
  where
    quotes : (d : ℕ) → ((d == 92) || (d == 39) || (d == 34)) ≡ true → d < 128
    quotes d h = grind (arith, nat_tests)

either_digit : (b : Bool) (k c : ℕ) (o : Option ℕ) → (b ≡ true → k < 16) → (if b then Some k else o) ≡ Some c → (o ≡ Some c → c < 16) → c < 16
either_digit true k c o h e rest = subst (λ n. n < 16) (same e) (h refl)
  where
    same : Some k ≡ Some c → k ≡ c
    same e = cc
either_digit false k c o h e rest = rest e

digits_small : (d n : ℕ) → hex_digit d ≡ Some n → n < 16
digits_small d n e =
    either_digit (is_digit d) (d - 48) n _ (decimal d) e
    (λ e. either_digit (nat_le 65 d && nat_le d 70) (d - 55) n _ (large d) e
    (λ e. either_digit (nat_le 97 d && nat_le d 102) (d - 87) n None (small d) e (λ e. absurd cc)))
  where
    decimal : (d : ℕ) → is_digit d ≡ true → d - 48 < 16
    decimal d h = grind (arith, nat_tests)

    large : (d : ℕ) → (nat_le 65 d && nat_le d 70) ≡ true → d - 55 < 16
    large d h = grind (arith, nat_tests)

    small : (d : ℕ) → (nat_le 97 d && nat_le d 102) ≡ true → d - 87 < 16
    small d h = grind (arith, nat_tests)

plain_small : (quote c : ℕ) → is_plain quote c ≡ true → c < 128
plain_small quote c h = grind (arith, nat_tests)

high_small : (h : ℕ) → (nat_le 48 h && nat_le h 55) ≡ true → h ≤ 55
high_small h e = grind (arith, nat_tests)

item_small : (quote c : ℕ) (s r : List ℕ) → Item quote c s r → c < 128
item_small quote c s r (itself p e) = plain_small quote c p
item_small quote c s r (escaped d e x) = escapes_small d c e
item_small quote c s r (coded high low n h e is x) =
    let a = high_small high h in
    let b = digits_small low n e in
    omega (arith, a, b, is)

-- ---- lists

both : (a b : Bool) → a ≡ true → b ≡ true → (a && b) ≡ true
both true b e f = f
both false b e f = absurd cc

module _ (gap : List ℕ → List ℕ) (Part : List ℕ → Val → List ℕ → Type 0) (t : Ty) (each : (s : List ℕ) (v : Val) (r : List ℕ) → Part s v r → Of t v) (close : ℕ) where
  values_of : (s : List ℕ) (vs : List Val) (r : List ℕ) → Values gap Part close s vs r → list_all (is_well t) vs ≡ true
  values_of s [] r h = refl
  values_of s (v ∷ vs) r h = both (is_well t v) (list_all (is_well t) vs) (each s v h.0 h.1) (values_of (gap h.0) vs r h.2)

characters_of : (s : List ℕ) (v : Val) (r : List ℕ) → CharacterItem s v r → Of type.Char v
characters_of s v r h = subst (Of type.Char) (sym h.1) (of_char h.0 (lt-ltb h.0 128 (item_small 34 h.0 s r h.2)))

-- ---- one level

module _ (below : ℕ) (Part : Spelling) (each : (t : Ty) (s : List ℕ) (v : Val) (r : List ℕ) → Part t s v r → Of t v) where
  fields_of : (fs : List (List ℕ × Ty)) (s : List ℕ) (vs : List Val) (r : List ℕ) → FieldValues Part fs s vs r → AreOf (map (λ m. m.1) fs) vs
  fields_of [] s [] r h = tt
  fields_of [] s (v ∷ vs) r h = absurd h
  fields_of (f ∷ fs) s [] r h = absurd h
  fields_of (f ∷ fs) s (v ∷ vs) r h = (each f.1 (past_blanks s) v h.0 h.1, fields_of fs h.0 vs r h.2)

  -- a value as it is, at a type as it is
  moved : (t u : Ty) (v w : Val) → t ≡ u → v ≡ w → Of u w → Of t v
  moved t u v w e f h = subst (λ x. Of x v) (sym e) (subst (Of u) (sym f) h)

  level_of : (t : Ty) (s : List ℕ) (v : Val) (r : List ℕ) → Alternative below Part t s v r → Of t v
  level_of t s v r (error w h e) = subst (Of t) (sym e) (of_error t cause.Explicit)
  level_of t s v r (error_because c a b w h o e) = subst (Of t) (sym e) (of_error t c)
  level_of t s v r (integer z k h f e) = moved t type.Int v (val.Int z) k e (of_int z f)
  level_of t s v r (yes k w e) = moved t type.Bool v (val.Bool true) k e (of_bool true)
  level_of t s v r (no k w e) = moved t type.Bool v (val.Bool false) k e (of_bool false)
  level_of t s v r (character c a b k o i x e) = moved t type.Char v (val.Char c) k e (of_char c (lt-ltb c 128 (item_small 39 c a b i)))
  level_of t s v r (nil k w e) = moved t type.Null v val.Null k e of_null
  level_of t s v r (array element lo vs a b c k o i f x h w e) =
      moved t (type.Arr element) v (val.Arr (bounded lo vs)) k e
      (of_arr element (bounded lo vs) (both (fits_64 lo && is_within lo (length vs)) (list_all (is_well element) vs) (both (fits_64 lo) (is_within lo (length vs)) f w) (values_of past_blanks (Part element) element (each element) 93 (past_blanks c) vs r h)))
  level_of t s v r (text vs a k o h w room e) =
      moved t (type.Arr type.Char) v (val.Arr (bounded (pos 1) vs)) k e
      (of_arr type.Char (bounded (pos 1) vs) (both (fits_64 (pos 1) && is_within (pos 1) (length vs)) (list_all (is_well type.Char) vs) (both (fits_64 (pos 1)) (is_within (pos 1) (length vs)) refl w) (values_of no_gap CharacterItem type.Char characters_of 34 a vs r h)))
  level_of t s v r (stream element vs a k o h few e) =
      moved t (type.Stream element) v (val.Stream vs) k e
      (of_stream element vs (both (is_few (length vs)) (list_all (is_well element) vs) (le-leb (length vs) 4194304 few) (values_of past_blanks (Part element) element (each element) 125 (past_blanks a) vs r h)))
  level_of t s v r (fields fs vs a b k o h few x e) =
      moved t (type.Rec fs) v (val.Rec vs) k e (record_well fs vs (leb-true (length fs) 4194304 few) (fields_of fs a vs b h))
  level_of t s v r (union tags n tag w a b c d k o h small x at p y e) =
      moved t (type.Uni tags) v (val.Uni n w) k e (union_well tags n tag w at (each tag.1 (past_blanks c) w d p))

part_of : (n : ℕ) (t : Ty) (s : List ℕ) (v : Val) (r : List ℕ) → PartAt n t s v r → Of t v
part_of zero t s v r p = absurd p
part_of (suc n) t s v r p = level_of n (PartAt n) (part_of n) t s v r p

pub read_of : IsReadOfType
read_of word t v h = part_of 64 t (past_blanks word) v h.rest h.spelled

pub words_of : AreWordsOfTypes
words_of [] [] [] h = tt
words_of [] [] (v ∷ vs) h = absurd h
words_of [] (t ∷ ts) [] h = absurd h
words_of [] (t ∷ ts) (v ∷ vs) h = absurd h
words_of (w ∷ ws) [] [] h = absurd h
words_of (w ∷ ws) [] (v ∷ vs) h = absurd h
words_of (w ∷ ws) (t ∷ ts) [] h = absurd h
words_of (w ∷ ws) (t ∷ ts) (v ∷ vs) h = (read_of w t v h.0, words_of ws ts vs h.1)
