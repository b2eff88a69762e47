-- What a look at a value text tells of its form.
use Rattle.std.proofs.Common.{◌≡◌, ℕ, zero, suc, ◌+◌, ◌-◌, ◌*◌, ◌^◌, ◌<◌, ◌≤◌, ℤ, pos, neg_ℤ, Bool, true, false, cond, not, ◌||◌, ◌&&◌, eqb, ltb, leb, List, [], ◌∷◌, ◌++◌, length, Option, Some, None, refl, sym, ap, subst, ◌∙◌, inl, inr, ◌⊎◌, arith, option_map}
use Rattle.std.specs.Prelude.{codes, nat_le, nat_lt}
use Rattle.std.specs.List.{list_all}
use Rattle.std.proofs.lemmas.Bool.{lt-ltb, le-ltb, le-leb, lt-leb, ltb-true, ltb-false, leb-true, leb-false, both_ways, eq-eqb, ne_eqb}
use Rattle.flow_value.specs.Bounds.{is_few, is_in_range, is_within as within_bounds}
use Rattle.flow_value.specs.Scalar.{fits_64}
use Rattle.flow_value.specs.declared.cause.Cause.{Cause}
use Rattle.flow_value.specs.declared.value.Val.{Val}
use Rattle.flow_value.specs.declared.value.Val.TheVariants as val
use Rattle.flow_value.specs.declared.ty.Ty.{Ty}
use Rattle.value_text.specs.Tokens.{◌>>=◌, or_else, past_blanks, sign_in, number_in, number_from, integer_in, item_in, in_64_bits, is_digit, ends_row, fitting, not_negative, negated}
use Rattle.value_text.specs.Reading.{with_rest, error_in, int_in, bool_in, null_in, char_in, bound_in, tag_in}
use Rattle.value_text.specs.Grammar.{Sign, Word, Number, Integer, plain, minus, Item, Because, row_value}
use Rattle.value_text.specs.Forms.{Form, Parts, none, part, Spells, SpellsParts, Items, NoCause}
use Rattle.value_text.specs.Forms as form
use Rattle.value_text.specs.Faults.{count, has_level, is_within, are_within, asks, is_int, is_bool, is_char, is_null, is_array, is_text, is_stream, is_record, is_union, element_of, item_of, fields_of, content_of, type_at, unless_own, misfit, part_misfit}
use Rattle.value_text.specs.Surveying.{Look, LookParts, Looker, of_value, error_look, scalar_look, one_more, items_look, text_found, text_look, with_look, parts_look, array_found, array_look, stream_look, record_look, narrow_tag, content_look, union_look, by_front, level_look, look}
use Rattle.value_text.proofs.Steps.{sign_complete, sign_sound, word_complete, number_complete, digits_again}
use Rattle.value_text.proofs.Complete.{integer_complete, item_complete, error_in_complete, error_in_alone}
use Rattle.value_text.proofs.Follows.{cons_eq, other}

-- ---- first bytes

and_two : (a b : Bool) → (a && b) ≡ true → (a ≡ true) × (b ≡ true)
and_two true b e = (refl, e)
and_two false b e = absurd cc

-- no value begins as an aggregate ends
begins : ℕ → Bool
begins c = not (eqb c 93 || (eqb c 125 || eqb c 62))

digit_not : (c k : ℕ) → is_digit c ≡ true → is_digit k ≡ false → eqb c k ≡ false
digit_not c k h e = ne_eqb c k (λ q. both_ways (is_digit k) e (subst (λ (x : ℕ). is_digit x ≡ true) q h))

digit_begins : (c : ℕ) → is_digit c ≡ true → begins c ≡ true
unfolding begins
digit_begins c h = rw (digit_not c 93 h refl, digit_not c 125 h refl, digit_not c 62 h refl) refl

at_begin : (c d : ℕ) (t u : List ℕ) → c ∷ t ≡ d ∷ u → begins d ≡ true → begins c ≡ true
at_begin c d t u e h = subst (λ (x : ℕ). begins x ≡ true) (sym (cons_eq e).0) h

number_begins : (k c : ℕ) (t r : List ℕ) → Number k (c ∷ t) r → begins c ≡ true
number_begins k c t r h = at_begin c h.first t (h.more ++ r) h.spelled (digit_begins h.first (and_two (is_digit h.first) (list_all is_digit h.more) h.digits).0)

starts : (f : Form) (c : ℕ) (t r : List ℕ) → Spells f (c ∷ t) r → begins c ≡ true
unfolding begins
starts form.error c t r h = at_begin c 101 t (codes "rror" ++ r) h.0.spelled refl
starts (form.error_because x) c t r h = at_begin c 101 t (codes "rror" ++ h.0) h.2.spelled refl
starts (form.integer z) c t r (plain n h e) = number_begins n c t r h
starts (form.integer z) c t r (minus n u o h e) = at_begin c 45 t u o refl
starts (form.boolean true) c t r h = at_begin c 84 t r h.spelled refl
starts (form.boolean false) c t r h = at_begin c 70 t r h.spelled refl
starts (form.character x) c t r h = at_begin c 39 t h.0 h.2 refl
starts (form.characters cs) c t r h = at_begin c 34 t h.0 h.1 refl
starts form.nil c t r h = at_begin c 110 t (codes "il" ++ r) h.spelled refl
starts (form.array lo ps) c t r h = at_begin c 91 t h.0 h.3 refl
starts (form.stream ps) c t r h = at_begin c 123 t h.0 h.1 refl
starts (form.fields ps) c t r h = at_begin c 60 t h.0 h.1 refl
starts (form.union n k f) c t r h = at_begin c 40 t h.0 h.4 refl

open_yet : (f : Form) (close : ℕ) (s r : List ℕ) → begins close ≡ false → Spells f s r → sign_in close s ≡ None
open_yet f close s r e h = go (sign_in close s) refl
  where
    go : (o : Option (List ℕ)) → sign_in close s ≡ o → o ≡ None
    go None q = refl
    go (Some t) q = absurd (both_ways (begins close) e (starts f close t r (subst (λ (x : List ℕ). Spells f x r) (sign_sound close s t q) h)))

closer_93 : begins 93 ≡ false
unfolding begins
closer_93 = refl

closer_125 : begins 125 ≡ false
unfolding begins
closer_125 = refl

closer_62 : begins 62 ≡ false
unfolding begins
closer_62 = refl

either : {A B : Type 0} (w : Bool) (p : A) (f : A → Option B) (y : B) → f p ≡ Some y → (cond w (Some p) None >>= f) ≡ cond w (Some y) None
either true p f y e = e
either false p f y e = refl

-- ---- numbers

number_none : (n : ℕ) (s r : List ℕ) → Number n s r → 2 ^ 64 ≤ n → number_in s ≡ None
number_none n s r h large =
    let p = and_two (is_digit h.first) (list_all is_digit h.more) h.digits in
    let start : ℕ = 0 * 10 + (h.first - 48) in
    let read : number_from start (h.more ++ r) ≡ (n, r) = digits_again start h.more r p.1 h.alone ∙ ap (λ (m : ℕ). (m, r)) h.value in
    rw (h.spelled, p.0, read, le-ltb n (2 ^ 64) large) refl

not_minus : (n : ℕ) (s r : List ℕ) → Number n s r → sign_in 45 s ≡ None
not_minus n s r h =
    let first = (and_two (is_digit h.first) (list_all is_digit h.more) h.digits).0 in
    rw (h.spelled, digit_not h.first 45 first refl) refl

-- an integer is read where it fits 64 signed bits
integer_form : (z : ℤ) (s r : List ℕ) → Integer z s r → integer_in s ≡ cond (fits_64 z) (Some (z, r)) None
integer_form z s r h = go (fits_64 z) refl
  where
    small : (n : ℕ) (t : List ℕ) → Number n t r → (f : ℕ × List ℕ → ℤ × List ℕ) → f (n, r) ≡ (z, r) → fits_64 z ≡ false → (option_map f (number_in t) >>= fitting) ≡ None
    small n t g f e q = by_size (ltb n (2 ^ 64)) refl
      where
        by_size : (b : Bool) → ltb n (2 ^ 64) ≡ b → (option_map f (number_in t) >>= fitting) ≡ None
        by_size true l = rw (number_complete n t r g (ltb-true n (2 ^ 64) l), e, q) refl
        by_size false l = rw (number_none n t r g (ltb-false n (2 ^ 64) l)) refl

    past : fits_64 z ≡ false → Integer z s r → integer_in s ≡ None
    past q (plain n g e) = rw (not_minus n s r g) (small n s g not_negative (ap (λ (x : ℤ). (x, r)) (sym e)) q)
    past q (minus n t o g e) = rw (sign_complete 45 s t o) (small n (past_blanks t) g negated (ap (λ (x : ℤ). (x, r)) (sym e)) q)

    go : (b : Bool) → fits_64 z ≡ b → integer_in s ≡ cond b (Some (z, r)) None
    go true q = integer_complete z s r h q
    go false q = past q h

bound_form : (lo : ℤ) (a b c : List ℕ) → Integer lo (past_blanks a) b → Sign 58 (past_blanks b) c → bound_in (91 ∷ a) ≡ cond (fits_64 lo) (Some (lo, c)) None
bound_form lo a b c h o = rw (integer_form lo (past_blanks a) b h) (either {A = ℤ × List ℕ} {B = ℤ × List ℕ} (fits_64 lo) (lo, b) (λ (p : ℤ × List ℕ). with_rest p.0 (sign_in 58 (past_blanks p.1))) (lo, c) (rw (sign_complete 58 (past_blanks b) c o) refl))

tag_form : (n : ℕ) (a b c : List ℕ) (g : ℕ → List ℕ → Option Look) → Number n (past_blanks a) b → Sign 58 (past_blanks b) c → (tag_in (40 ∷ a) >>= λ p. narrow_tag p.0 >>= λ m. g m p.1) ≡ cond (nat_lt n (2 ^ 63)) (g n c) None
tag_form n a b c g h o = by_size (ltb n (2 ^ 64)) refl
  where
    narrow : (x : Bool) → nat_lt n (2 ^ 63) ≡ x → (cond x (Some n) None >>= λ m. g m c) ≡ cond x (g n c) None
    narrow true e = refl
    narrow false e = refl

    by_size : (x : Bool) → ltb n (2 ^ 64) ≡ x → (tag_in (40 ∷ a) >>= λ p. narrow_tag p.0 >>= λ m. g m p.1) ≡ cond (nat_lt n (2 ^ 63)) (g n c) None
    by_size true e = rw (number_complete n (past_blanks a) b h (ltb-true n (2 ^ 64) e), sign_complete 58 (past_blanks b) c o) (narrow (nat_lt n (2 ^ 63)) refl)
    by_size false e = rw (number_none n (past_blanks a) b h (ltb-false n (2 ^ 64) e), le-ltb n (2 ^ 63) (omega (arith, ltb-false n (2 ^ 64) e))) refl

-- ---- what is within the limits

bounded : {A B : Type 0} (a l m : Bool) (p : A) (f : A → Option B) (y : B) → f p ≡ cond (l && m) (Some y) None → (cond (a && l) (Some p) None >>= f) ≡ cond (a && (l && m)) (Some y) None
bounded true true m p f y e = e
bounded true false m p f y e = refl
bounded false l m p f y e = refl

guarded : {A B : Type 0} (w a : Bool) (p : A) (f : A → Option B) (y : B) → f p ≡ cond a (Some y) None → (cond w (Some p) None >>= f) ≡ cond (w && a) (Some y) None
guarded true a p f y e = e
guarded false a p f y e = refl

nested : {B : Type 0} (w a : Bool) (o : Option B) (y : B) → o ≡ cond a (Some y) None → cond w o None ≡ cond (w && a) (Some y) None
nested true a o y e = e
nested false a o y e = refl

scalar : (w : Bool) (own : Bool) (k : ℕ) (v : Val) (r : List ℕ) (o : Option (Val × List ℕ)) → o ≡ cond w (Some (v, r)) None → (o >>= of_value own k) ≡ cond w (Some (unless_own own k None, r)) None
scalar w own k v r o e = rw e (either {A = Val × List ℕ} {B = Look} w (v, r) (of_value own k) (unless_own own k None, r) refl)

-- ---- scalars

int_form : (z : ℤ) (s r : List ℕ) → Integer z s r → int_in s ≡ cond (fits_64 z) (Some (val.Int z, r)) None
unfolding int_in
int_form z s r h = rw (integer_form z s r h) (either {A = ℤ × List ℕ} {B = Val × List ℕ} (fits_64 z) (z, r) (λ (p : ℤ × List ℕ). Some (val.Int p.0, p.1)) (val.Int z, r) refl)

char_form : (c : ℕ) (a b r : List ℕ) → Item 39 c a b → Sign 39 b r → char_in (39 ∷ a) ≡ Some (val.Char c, r)
unfolding char_in
char_form c a b r i o = rw (item_complete 39 c a b i, sign_complete 39 b r o) refl

module _ (n : ℕ) (sub : Looker) (ty : Option Ty) where
  digit_front : (c : ℕ) (t : List ℕ) → is_digit c ≡ true → level_look n sub ty (c ∷ t) ≡ (int_in (c ∷ t) >>= of_value (asks is_int ty) (length (c ∷ t)))
  unfolding error_in bool_in null_in char_in scalar_look
  digit_front c t e = rw (digit_not c 101 e refl, digit_not c 91 e refl, digit_not c 123 e refl, digit_not c 60 e refl, digit_not c 40 e refl, digit_not c 34 e refl, digit_not c 84 e refl, digit_not c 70 e refl, digit_not c 110 e refl, digit_not c 39 e refl) refl

  minus_front : (t : List ℕ) → level_look n sub ty (45 ∷ t) ≡ (int_in (45 ∷ t) >>= of_value (asks is_int ty) (length (45 ∷ t)))
  unfolding error_in bool_in null_in char_in scalar_look
  minus_front t = refl

  number_front : (z : ℤ) (s r : List ℕ) → Integer z s r → level_look n sub ty s ≡ (int_in s >>= of_value (asks is_int ty) (length s))
  number_front z s r (plain k h e) = subst (λ (x : List ℕ). level_look n sub ty x ≡ (int_in x >>= of_value (asks is_int ty) (length x))) (sym h.spelled) (digit_front h.first (h.more ++ r) (and_two (is_digit h.first) (list_all is_digit h.more) h.digits).0)
  number_front z s r (minus k t o h e) = subst (λ (x : List ℕ). level_look n sub ty x ≡ (int_in x >>= of_value (asks is_int ty) (length x))) (sym o) (minus_front t)

  integer_look : (z : ℤ) (s r : List ℕ) → Integer z s r → level_look n sub ty s ≡ cond (fits_64 z) (Some (unless_own (asks is_int ty) (length s) None, r)) None
  integer_look z s r h = number_front z s r h ∙ scalar (fits_64 z) (asks is_int ty) (length s) (val.Int z) r (int_in s) (int_form z s r h)

  yes_look : (r : List ℕ) → ends_row r ≡ true → level_look n sub ty (84 ∷ r) ≡ Some (unless_own (asks is_bool ty) (length (84 ∷ r)) None, r)
  unfolding error_in bool_in scalar_look
  yes_look r e = rw e refl

  no_look : (r : List ℕ) → ends_row r ≡ true → level_look n sub ty (70 ∷ r) ≡ Some (unless_own (asks is_bool ty) (length (70 ∷ r)) None, r)
  unfolding error_in bool_in scalar_look
  no_look r e = rw e refl

  nil_look : (r : List ℕ) → ends_row r ≡ true → level_look n sub ty (110 ∷ 105 ∷ 108 ∷ r) ≡ Some (unless_own (asks is_null ty) (length (110 ∷ 105 ∷ 108 ∷ r)) None, r)
  unfolding error_in bool_in null_in scalar_look
  nil_look r e = rw e refl

  char_look : (c : ℕ) (a b r : List ℕ) → Item 39 c a b → Sign 39 b r → level_look n sub ty (39 ∷ a) ≡ Some (unless_own (asks is_char ty) (length (39 ∷ a)) None, r)
  unfolding error_in bool_in null_in scalar_look
  char_look c a b r i o = rw (char_form c a b r i o) refl

  alone_look : (s r : List ℕ) → Word (codes "error") s r → NoCause r → level_look n sub ty s ≡ Some (None, r)
  alone_look s r w h = rw (error_in_alone s r w h) refl

  because_look : (c : Cause) (s a b r : List ℕ) → Word (codes "error") s a → Because c a b → Sign 41 (past_blanks b) r → level_look n sub ty s ≡ Some (None, r)
  because_look c s a b r w h o = rw (error_in_complete c s a b r w h o) refl

-- ---- texts

no_item_34 : (c : ℕ) (t b : List ℕ) → item_in 34 (34 ∷ t) ≡ Some (c, b) → ⊥
no_item_34 c t b e = cc

item_open : (c : ℕ) (s b : List ℕ) → Item 34 c s b → sign_in 34 s ≡ None
item_open c s b i = go (sign_in 34 s) refl
  where
    go : (o : Option (List ℕ)) → sign_in 34 s ≡ o → o ≡ None
    go None q = refl
    go (Some t) q = absurd (no_item_34 c t b (item_complete 34 c (34 ∷ t) b (subst (λ (x : List ℕ). Item 34 c x b) (sign_sound 34 s t q) i)))

none_below : (k : ℕ) → leb (k + 1) 0 ≡ false
none_below k = lt-leb (k + 1) 0 (omega arith)

less_by_one : (k m : ℕ) → leb (k + 1) (suc m) ≡ leb k m
less_by_one k m = go (leb k m) refl
  where
    go : (b : Bool) → leb k m ≡ b → leb (k + 1) (suc m) ≡ b
    go true e = le-leb (k + 1) (suc m) (omega (arith, leb-true k m e))
    go false e = lt-leb (k + 1) (suc m) (omega (arith, leb-false k m e))

items_form : (cs : List ℕ) (m : ℕ) (s r : List ℕ) → Items cs s r → items_look m s ≡ cond (leb (length cs) m) (Some (length cs, r)) None
unfolding items_look
items_form [] zero s r h = rw (sign_complete 34 s r h) refl
items_form [] (suc m) s r h = rw (sign_complete 34 s r h, le-leb 0 (suc m) (omega arith)) refl
items_form (c ∷ cs) zero s r (t, i, h) = rw (item_open c s t i, past (length cs)) refl
  where
    past : (k : ℕ) → leb (suc k) 0 ≡ false
    past k = lt-leb (suc k) 0 (omega arith)
items_form (c ∷ cs) (suc m) s r (t, i, h) =
    rw (item_open c s t i, item_complete 34 c s t i, items_form cs m t r h, more (length cs)) (one (leb (length cs) m))
  where
    more : (k : ℕ) → leb (suc k) (suc m) ≡ leb k m
    more k = let e : suc k ≡ k + 1 = omega arith in rw e (less_by_one k m)

    one : (b : Bool) → one_more (cond b (Some (length cs, r)) None) ≡ cond b (Some (suc (length cs), r)) None
    one true = let e : length cs + 1 ≡ suc (length cs) = omega arith in ap (λ (k : ℕ). Some (k, r)) e
    one false = refl

level_of : (n : ℕ) (cs : List ℕ) → (eqb (length cs) 0 || nat_lt 0 n) ≡ has_level n cs
level_of n [] = refl
level_of n (c ∷ cs) = rw (more (length cs)) refl
  where
    more : (k : ℕ) → eqb (suc k) 0 ≡ false
    more k = ne_eqb (suc k) 0 (λ e. omega (arith, e))

text_form : (n : ℕ) (sub : Looker) (ty : Option Ty) (cs a r : List ℕ) → Items cs a r → level_look n sub ty (34 ∷ a) ≡ cond (is_few (length cs) && has_level n cs) (Some (unless_own (asks is_text ty) (length (34 ∷ a)) None, r)) None
unfolding error_in text_look
text_form n sub ty cs a r h =
    rw (items_form cs 4194304 a r h) (guarded {A = ℕ × List ℕ} {B = Look} (is_few (length cs)) (has_level n cs) (length cs, r) (text_found n (asks is_text ty) (length (34 ∷ a))) (unless_own (asks is_text ty) (length (34 ∷ a)) None, r) (rw (level_of n cs) refl))

-- ---- aggregates

-- what parts are told of
abbrev Told : Parts → ℕ → Looker → Type 0
Told ps n sub = (ty : Option Ty) (fs : List (List ℕ × Ty)) (close m i : ℕ) (s r : List ℕ) → begins close ≡ false → SpellsParts ps close s r → parts_look sub ty fs close m i s ≡ cond (are_within ps n && nat_le (count ps) m) (Some ((count ps, part_misfit ps ty fs i), r)) None

module _ (n : ℕ) (sub : Looker) (ty : Option Ty) where
  array_form : (lo : ℤ) (ps : Parts) (a b c r : List ℕ) → Told ps n sub → Integer lo (past_blanks a) b → Sign 58 (past_blanks b) c → SpellsParts ps 93 (past_blanks c) r → level_look n sub ty (91 ∷ a) ≡ cond (fits_64 lo && (are_within ps n && within_bounds lo (count ps))) (Some (unless_own (asks is_array ty) (length (91 ∷ a)) (part_misfit ps (element_of ty) [] 0), r)) None
  unfolding error_in array_look
  array_form lo ps a b c r told h o p =
      rw (bound_form lo a b c h o) (guarded {A = ℤ × List ℕ} {B = Look} (fits_64 lo) (are_within ps n && within_bounds lo (count ps)) (lo, c) (λ (b : ℤ × List ℕ). parts_look sub (element_of ty) [] 93 4194304 0 (past_blanks b.1) >>= array_found b.0 (asks is_array ty) (length (91 ∷ a))) (unless_own (asks is_array ty) (length (91 ∷ a)) (part_misfit ps (element_of ty) [] 0), r) inside)
    where
      inside : (parts_look sub (element_of ty) [] 93 4194304 0 (past_blanks c) >>= array_found lo (asks is_array ty) (length (91 ∷ a))) ≡ cond (are_within ps n && within_bounds lo (count ps)) (Some (unless_own (asks is_array ty) (length (91 ∷ a)) (part_misfit ps (element_of ty) [] 0), r)) None
      inside = rw (told (element_of ty) [] 93 4194304 0 (past_blanks c) r closer_93 p) (bounded {A = LookParts} {B = Look} (are_within ps n) (is_few (count ps)) (is_in_range lo (count ps)) ((count ps, part_misfit ps (element_of ty) [] 0), r) (array_found lo (asks is_array ty) (length (91 ∷ a))) (unless_own (asks is_array ty) (length (91 ∷ a)) (part_misfit ps (element_of ty) [] 0), r) refl)

  stream_form : (ps : Parts) (a r : List ℕ) → Told ps n sub → SpellsParts ps 125 (past_blanks a) r → level_look n sub ty (123 ∷ a) ≡ cond (are_within ps n && is_few (count ps)) (Some (unless_own (asks is_stream ty) (length (123 ∷ a)) (part_misfit ps (item_of ty) [] 0), r)) None
  unfolding error_in stream_look
  stream_form ps a r told p = rw (told (item_of ty) [] 125 4194304 0 (past_blanks a) r closer_125 p) (either {A = LookParts} {B = Look} (are_within ps n && is_few (count ps)) ((count ps, part_misfit ps (item_of ty) [] 0), r) (λ (q : LookParts). Some (unless_own (asks is_stream ty) (length (123 ∷ a)) q.0.1, q.1)) (unless_own (asks is_stream ty) (length (123 ∷ a)) (part_misfit ps (item_of ty) [] 0), r) refl)

  record_form : (ps : Parts) (a r : List ℕ) → Told ps n sub → SpellsParts ps 62 (past_blanks a) r → level_look n sub ty (60 ∷ a) ≡ cond (are_within ps n && is_few (count ps)) (Some (unless_own (asks (is_record (count ps)) ty) (length (60 ∷ a)) (part_misfit ps None (fields_of ty) 0), r)) None
  unfolding error_in record_look
  record_form ps a r told p = rw (told None (fields_of ty) 62 4194304 0 (past_blanks a) r closer_62 p) (either {A = LookParts} {B = Look} (are_within ps n && is_few (count ps)) ((count ps, part_misfit ps None (fields_of ty) 0), r) (λ (q : LookParts). Some (unless_own (asks (is_record q.0.0) ty) (length (60 ∷ a)) q.0.1, q.1)) (unless_own (asks (is_record (count ps)) ty) (length (60 ∷ a)) (part_misfit ps None (fields_of ty) 0), r) refl)

  union_form : (t k : ℕ) (f : Form) (a b c d r : List ℕ) → sub (content_of t ty) (past_blanks c) ≡ cond (is_within f n) (Some (misfit f (content_of t ty) k, d)) None → Number t (past_blanks a) b → Sign 58 (past_blanks b) c → Sign 41 (past_blanks d) r → level_look n sub ty (40 ∷ a) ≡ cond (nat_lt t (2 ^ 63) && is_within f n) (Some (unless_own (asks (is_union t) ty) (length (40 ∷ a)) (misfit f (content_of t ty) k), r)) None
  unfolding error_in union_look
  union_form t k f a b c d r told h o x =
      tag_form t a b c (λ m u. content_look sub ty (length (40 ∷ a)) m u) h o ∙ nested (nat_lt t (2 ^ 63)) (is_within f n) (content_look sub ty (length (40 ∷ a)) t c) (unless_own (asks (is_union t) ty) (length (40 ∷ a)) (misfit f (content_of t ty) k), r) inside
    where
      inside : content_look sub ty (length (40 ∷ a)) t c ≡ cond (is_within f n) (Some (unless_own (asks (is_union t) ty) (length (40 ∷ a)) (misfit f (content_of t ty) k), r)) None
      inside = rw told (either {A = Look} {B = Look} (is_within f n) (misfit f (content_of t ty) k, d) (λ (p : Look). with_rest (unless_own (asks (is_union t) ty) (length (40 ∷ a)) p.0) (sign_in 41 (past_blanks p.1))) (unless_own (asks (is_union t) ty) (length (40 ∷ a)) (misfit f (content_of t ty) k), r) (rw (sign_complete 41 (past_blanks d) r x) refl))

-- ---- forms

abbrev Tells : Form → ℕ → Option Ty → List ℕ → List ℕ → Type 0
Tells f n ty s r = look n ty s ≡ cond (is_within f n) (Some (misfit f ty (length s), r)) None

at_text : (f : Form) (n : ℕ) (ty : Option Ty) (s t r : List ℕ) → s ≡ t → Tells f n ty t r → Tells f n ty s r
at_text f n ty s t r e h = subst (λ (x : List ℕ). Tells f n ty x r) (sym e) h

and_no : (b : Bool) → (b && false) ≡ false
and_no true = refl
and_no false = refl

more_parts : (w a l : Bool) (p : Look) (g : Look → Option LookParts) (x y : LookParts) → g p ≡ with_look p.0 (cond (a && l) (Some x) None) → Some y ≡ with_look p.0 (Some x) → (cond w (Some p) None >>= g) ≡ cond ((w && a) && l) (Some y) None
more_parts true true true p g x y e f = e ∙ sym f
more_parts true true false p g x y e f = e
more_parts true false l p g x y e f = e
more_parts false a l p g x y e f = refl

mutual
  unfolding parts_look

  pub look_form : (f : Form) (n : ℕ) (ty : Option Ty) (s r : List ℕ) → Spells f s r → Tells f n ty s r
  look_form form.error zero ty s r h = refl
  look_form form.error (suc n) ty s r h = alone_look n (look n) ty s r h.0 h.1
  look_form (form.error_because c) zero ty s r h = refl
  look_form (form.error_because c) (suc n) ty s r h = because_look n (look n) ty c s h.0 h.1 r h.2 h.3 h.4
  look_form (form.integer z) zero ty s r h = refl
  look_form (form.integer z) (suc n) ty s r h = integer_look n (look n) ty z s r h
  look_form (form.boolean b) zero ty s r h = refl
  look_form (form.boolean true) (suc n) ty s r h = at_text (form.boolean true) (suc n) ty s (84 ∷ r) r h.spelled (yes_look n (look n) ty r h.alone)
  look_form (form.boolean false) (suc n) ty s r h = at_text (form.boolean false) (suc n) ty s (70 ∷ r) r h.spelled (no_look n (look n) ty r h.alone)
  look_form (form.character c) zero ty s r h = refl
  look_form (form.character c) (suc n) ty s r h = at_text (form.character c) (suc n) ty s (39 ∷ h.0) r h.2 (char_look n (look n) ty c h.0 h.1 r h.3 h.4)
  look_form (form.characters cs) zero ty s r h = refl
  look_form (form.characters cs) (suc n) ty s r h = at_text (form.characters cs) (suc n) ty s (34 ∷ h.0) r h.1 (text_form n (look n) ty cs h.0 r h.2)
  look_form form.nil zero ty s r h = refl
  look_form form.nil (suc n) ty s r h = at_text form.nil (suc n) ty s (110 ∷ 105 ∷ 108 ∷ r) r h.spelled (nil_look n (look n) ty r h.alone)
  look_form (form.array lo ps) zero ty s r h = refl
  look_form (form.array lo ps) (suc n) ty s r h = at_text (form.array lo ps) (suc n) ty s (91 ∷ h.0) r h.3 (array_form n (look n) ty lo ps h.0 h.1 h.2 r (parts_form ps n) h.4 h.5 h.6)
  look_form (form.stream ps) zero ty s r h = refl
  look_form (form.stream ps) (suc n) ty s r h = at_text (form.stream ps) (suc n) ty s (123 ∷ h.0) r h.1 (stream_form n (look n) ty ps h.0 r (parts_form ps n) h.2)
  look_form (form.fields ps) zero ty s r h = refl
  look_form (form.fields ps) (suc n) ty s r h = at_text (form.fields ps) (suc n) ty s (60 ∷ h.0) r h.1 (record_form n (look n) ty ps h.0 r (parts_form ps n) h.2)
  look_form (form.union t k f) zero ty s r h = refl
  look_form (form.union t k f) (suc n) ty s r h =
      at_text (form.union t k f) (suc n) ty s (40 ∷ h.0) r h.4 (union_form n (look n) ty t k f h.0 h.1 h.2 h.3 r (subst (λ (x : ℕ). look n (content_of t ty) (past_blanks h.2) ≡ cond (is_within f n) (Some (misfit f (content_of t ty) x, h.3)) None) (sym h.7) (look_form f n (content_of t ty) (past_blanks h.2) h.3 h.8)) h.5 h.6 h.9)

  parts_form : (ps : Parts) (n : ℕ) → Told ps n (look n)
  parts_form none n ty fs close zero i s r e h = rw (sign_complete close s r h) refl
  parts_form none n ty fs close (suc m) i s r e h = rw (sign_complete close s r h, le-leb 0 (suc m) (omega arith)) refl
  parts_form (part k f ps) n ty fs close zero i s r e h = rw (open_yet f close s h.0 e h.2, none_below (count ps), and_no (is_within f n && are_within ps n)) refl
  parts_form (part k f ps) n ty fs close (suc m) i s r e h =
      rw (open_yet f close s h.0 e h.2, look_form f n (type_at ty fs i) s h.0 h.2, less_by_one (count ps) m)
      (more_parts (is_within f n) (are_within ps n) (leb (count ps) m) (misfit f (type_at ty fs i) (length s), h.0) (λ (p : Look). with_look p.0 (parts_look (look n) ty fs close m (i + 1) (past_blanks p.1))) ((count ps, part_misfit ps ty fs (i + 1)), r) ((count ps + 1, or_else (misfit f (type_at ty fs i) k) (part_misfit ps ty fs (i + 1))), r)
      (rw (parts_form ps n ty fs close m (i + 1) (past_blanks h.0) r e h.3) refl)
      (rw (h.1) refl))
