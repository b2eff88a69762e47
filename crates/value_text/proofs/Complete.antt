-- What is in the grammar is read.
use Rattle.std.proofs.Common.{◌≡◌, ◌≢◌, ℕ, zero, suc, ◌+◌, ◌-◌, ◌*◌, ◌^◌, ◌<◌, ◌≤◌, ℤ, pos, negsuc, neg_ℤ, Bool, true, false, cond, not, ◌||◌, ◌&&◌, eqb, ltb, leb, List, [], ◌∷◌, ◌++◌, length, Option, Some, None, refl, sym, ap, subst, ◌∙◌, inl, inr, ◌⊎◌, arith, rules, option_map, slice_get}
use Rattle.std.specs.Prelude.{codes, nat_le}
use Rattle.std.specs.List.{list_all}
use Rattle.std.proofs.lemmas.Bool.{eqb-true, eq-eqb, ltb-true, lt-ltb, leb-true, le-leb}
use Rattle.std.proofs.lemmas.Bool.Decides.{eqb_tells}
use Rattle.std.proofs.lemmas.Option.{same_Some, some_pair_parts, cond_some}
use Rattle.flow_value.specs.Bounds.{bounded, is_few, is_within}
use Rattle.flow_value.specs.Scalar.{fits_64}
use Rattle.flow_value.specs.declared.cause.Cause.{Cause}
use Rattle.flow_value.specs.declared.cause.Cause.TheVariants as cause
use Rattle.flow_value.specs.declared.value.Val.{Val}
use Rattle.flow_value.specs.declared.value.Val.TheVariants as val
use Rattle.flow_value.specs.declared.ty.Ty.{Ty}
use Rattle.flow_value.specs.declared.ty.Ty.TheVariants as type
use Rattle.flow_value.specs.declared.ty.Ty.TheOpen.{Ty-F}
use Rattle.flow_value.specs.declared.ty.Ty.TheViews.{out-Ty}
use Rattle.value_text.specs.Tokens.{◌>>=◌, or_else, past_blanks, sign_in, word_in, number_in, integer_in, signed_by, not_negative, negated, fitting, is_digit, item_in, escape_in, escape_of, hex_in, hex_digit, is_plain}
use Rattle.value_text.specs.Reading.{Reader, with_rest, cause_in, cause_after, closed_error, error_in, int_of, int_in, bool_in, null_in, char_in, with_part, many_in, fields_in, array_of, array_read, bound_in, array_in, stream_in, char_of, char_item, no_gap, has_room, text_read, text_in, record_in, tag_in, small_tag, content_in, union_in, text_at, typed_in, level_in, part_in, value_in}
use Rattle.value_text.specs.Grammar.{Sign, Word, Number, Integer, plain, minus, Item, itself, escaped, coded, cause_word, Spelling, Because, Values, FieldValues, CharacterItem, Alternative, error, error_because, integer, yes, no, character, nil, array, text, stream, fields, union, PartAt}
use Rattle.value_text.proofs.Steps.{sign_complete, sign_sound, word_complete, number_complete}
use Rattle.value_text.proofs.Sound.{because_sound, because_complete}
use Rattle.value_text.proofs.Parts.{many_stop}
use Rattle.value_text.proofs.Levels.{out_int, out_bool, out_char, out_null, out_arr, out_stream, out_rec, out_uni}

false_true : false ≡ true → ⊥
false_true e = cc

none_some : {A : Type 0} (x : A) → None ≡ Some x → ⊥
none_some x e = cc

differs : (d k : ℕ) → (d ≡ k → ⊥) → eqb d k ≡ false
differs d k h = elim (eqb_tells d k) [ inl p ↦ absurd (h p.1) | inr p ↦ p.0 ]

-- ---- integers

not_minus : (d : ℕ) → is_digit d ≡ true → eqb d 45 ≡ false
not_minus d h = differs d 45 (λ e. false_true (subst (λ (x : ℕ). is_digit x ≡ true) e h))

and_left : (a b : Bool) → (a && b) ≡ true → (a ≡ true) × (b ≡ true)
and_left true b e = (refl, e)
and_left false b e = absurd cc

minus_small : (n : ℕ) → fits_64 (neg_ℤ (pos n)) ≡ true → n < 2 ^ 64
minus_small zero h = omega arith
minus_small (suc n) h = let p : n < 2 ^ 63 = ltb-true n (2 ^ 63) h in omega (arith, p)

pub integer_complete : (z : ℤ) (s r : List ℕ) → Integer z s r → fits_64 z ≡ true → integer_in s ≡ Some (z, r)
integer_complete z s r (plain n h e) f =
    let first = (and_left (is_digit h.first) (list_all is_digit h.more) h.digits).0 in
    let fits : fits_64 (pos n) ≡ true = subst (λ (x : ℤ). fits_64 x ≡ true) e f in
    let small : n < 2 ^ 63 = ltb-true n (2 ^ 63) fits in
    let none : sign_in 45 s ≡ None = rw (h.spelled, not_minus h.first first) refl in
    let read : number_in s ≡ Some (n, r) = number_complete n s r h (omega (arith, small)) in
    rw (none, read, fits, e) refl
integer_complete z s r (minus n t o h e) f =
    let fits : fits_64 (neg_ℤ (pos n)) ≡ true = subst (λ (x : ℤ). fits_64 x ≡ true) e f in
    let read : number_in (past_blanks t) ≡ Some (n, r) = number_complete n (past_blanks t) r h (minus_small n fits) in
    rw (sign_complete 45 s t o, read, fits, e) refl

-- ---- items

not_backslash : (quote c : ℕ) → is_plain quote c ≡ true → eqb c 92 ≡ false
not_backslash quote c h = differs c 92 (λ e. false_true (subst (λ (x : ℕ). is_plain quote x ≡ true) e h))

not_x : (d c : ℕ) → escape_of d ≡ Some c → eqb d 120 ≡ false
not_x d c h = differs d 120 (λ e. none_some c (subst (λ (x : ℕ). escape_of x ≡ Some c) e h))

pub item_complete : (quote c : ℕ) (s r : List ℕ) → Item quote c s r → item_in quote s ≡ Some (c, r)
item_complete quote c s r (itself p e) =
    ap (item_in quote) e ∙ ap (λ (b : Bool). cond b (escape_in r) (cond (is_plain quote c) (Some (c, r)) None)) (not_backslash quote c p) ∙ ap (λ (b : Bool). cond b (Some (c, r)) None) p
item_complete quote c s r (escaped d p e) = rw (e, not_x d c p, p) refl
item_complete quote c s r (coded high low n p d v e) = rw (e, p, d, v) refl

-- ---- errors

pub error_in_complete : (c : Cause) (s a b r : List ℕ) → Word (codes "error") s a → Because c a b → Sign 41 (past_blanks b) r → error_in s ≡ Some (val.Err c, r)
unfolding error_in
error_in_complete c s a b r w h o = rw (word_complete (codes "error") s a w, because_complete c a b h, sign_complete 41 (past_blanks b) r o) refl

no_cause : (r : List ℕ) (o : Option (Cause × List ℕ)) → cause_after r ≡ o → ((c : Cause) (t : List ℕ) → Because c r t → ⊥) → o ≡ None
no_cause r None e h = refl
no_cause r (Some p) e h = absurd (h p.0 p.1 (because_sound r p.0 p.1 e))

pub error_in_alone : (s r : List ℕ) → Word (codes "error") s r → ((c : Cause) (t : List ℕ) → Because c r t → ⊥) → error_in s ≡ Some (val.Err cause.Explicit, r)
unfolding error_in
error_in_alone s r w h = rw (word_complete (codes "error") s r w, no_cause r (cause_after r) refl h) refl

-- ---- what begins otherwise

both_none : {A : Type 0} (o : Option A) (b : Bool) → cond b o o ≡ o
both_none o true = refl
both_none o false = refl

-- nothing of a type begins as an error does
text_at_e : (below : ℕ) (x : Ty-F Ty) (t : List ℕ) → text_at below x (101 ∷ t) ≡ None
unfolding text_in
text_at_e below Ty-F.Char t = refl
text_at_e below Ty-F.Int t = refl
text_at_e below Ty-F.Bool t = refl
text_at_e below Ty-F.Null t = refl
text_at_e below (Ty-F.Arr u) t = refl
text_at_e below (Ty-F.Stream u) t = refl
text_at_e below (Ty-F.Rec fs) t = refl
text_at_e below (Ty-F.Uni fs) t = refl

typed_e : (below : ℕ) (part : Ty → Reader) (x : Ty-F Ty) (t : List ℕ) → typed_in below part x (101 ∷ t) ≡ None
unfolding int_in bool_in char_in null_in array_in stream_in record_in union_in
typed_e below part Ty-F.Int t = refl
typed_e below part Ty-F.Bool t = refl
typed_e below part Ty-F.Char t = refl
typed_e below part Ty-F.Null t = refl
typed_e below part (Ty-F.Arr u) t = text_at_e below (out-Ty u) t
typed_e below part (Ty-F.Stream u) t = refl
typed_e below part (Ty-F.Rec fs) t = both_none None (is_few (length fs))
typed_e below part (Ty-F.Uni fs) t = refl

-- nothing begins as an array ends
text_at_b : (below : ℕ) (x : Ty-F Ty) (t : List ℕ) → text_at below x (93 ∷ t) ≡ None
unfolding text_in
text_at_b below Ty-F.Char t = refl
text_at_b below Ty-F.Int t = refl
text_at_b below Ty-F.Bool t = refl
text_at_b below Ty-F.Null t = refl
text_at_b below (Ty-F.Arr u) t = refl
text_at_b below (Ty-F.Stream u) t = refl
text_at_b below (Ty-F.Rec fs) t = refl
text_at_b below (Ty-F.Uni fs) t = refl

typed_b : (below : ℕ) (part : Ty → Reader) (x : Ty-F Ty) (t : List ℕ) → typed_in below part x (93 ∷ t) ≡ None
unfolding int_in bool_in char_in null_in array_in stream_in record_in union_in
typed_b below part Ty-F.Int t = refl
typed_b below part Ty-F.Bool t = refl
typed_b below part Ty-F.Char t = refl
typed_b below part Ty-F.Null t = refl
typed_b below part (Ty-F.Arr u) t = text_at_b below (out-Ty u) t
typed_b below part (Ty-F.Stream u) t = refl
typed_b below part (Ty-F.Rec fs) t = both_none None (is_few (length fs))
typed_b below part (Ty-F.Uni fs) t = refl

-- nothing begins as a stream ends
text_at_s : (below : ℕ) (x : Ty-F Ty) (t : List ℕ) → text_at below x (125 ∷ t) ≡ None
unfolding text_in
text_at_s below Ty-F.Char t = refl
text_at_s below Ty-F.Int t = refl
text_at_s below Ty-F.Bool t = refl
text_at_s below Ty-F.Null t = refl
text_at_s below (Ty-F.Arr u) t = refl
text_at_s below (Ty-F.Stream u) t = refl
text_at_s below (Ty-F.Rec fs) t = refl
text_at_s below (Ty-F.Uni fs) t = refl

typed_s : (below : ℕ) (part : Ty → Reader) (x : Ty-F Ty) (t : List ℕ) → typed_in below part x (125 ∷ t) ≡ None
unfolding int_in bool_in char_in null_in array_in stream_in record_in union_in
typed_s below part Ty-F.Int t = refl
typed_s below part Ty-F.Bool t = refl
typed_s below part Ty-F.Char t = refl
typed_s below part Ty-F.Null t = refl
typed_s below part (Ty-F.Arr u) t = text_at_s below (out-Ty u) t
typed_s below part (Ty-F.Stream u) t = refl
typed_s below part (Ty-F.Rec fs) t = both_none None (is_few (length fs))
typed_s below part (Ty-F.Uni fs) t = refl

pub part_b : (n : ℕ) (ty : Ty) (t : List ℕ) → part_in n ty (93 ∷ t) ≡ None
unfolding error_in
part_b zero ty t = refl
part_b (suc n) ty t = rw (typed_b n (part_in n) (out-Ty ty) t) refl

pub part_s : (n : ℕ) (ty : Ty) (t : List ℕ) → part_in n ty (125 ∷ t) ≡ None
unfolding error_in
part_s zero ty t = refl
part_s (suc n) ty t = rw (typed_s n (part_in n) (out-Ty ty) t) refl

-- ---- parts

open_yet : (part : Reader) (close : ℕ) (s : List ℕ) (o : Option (List ℕ)) (p : Val × List ℕ) → ((t : List ℕ) → part (close ∷ t) ≡ None) → sign_in close s ≡ o → part s ≡ Some p → o ≡ None
open_yet part close s None p none e h = refl
open_yet part close s (Some t) p none e h = absurd (none_some p (sym (none t) ∙ ap part (sym (sign_sound close s t e)) ∙ h))

pub many_complete : (gap : List ℕ → List ℕ) (part : Reader) (Part : List ℕ → Val → List ℕ → Type 0) → ((s : List ℕ) (v : Val) (r : List ℕ) → Part s v r → part s ≡ Some (v, r)) → (close : ℕ) → ((t : List ℕ) → part (close ∷ t) ≡ None) → (n : ℕ) (s : List ℕ) (vs : List Val) (r : List ℕ) → length vs ≤ n → Values gap Part close s vs r → many_in gap part close n s ≡ Some (vs, r)
unfolding many_in
many_complete gap part Part ih close none n s [] r few h = many_stop gap part close n s r (sign_complete close s r h)
many_complete gap part Part ih close none zero s (v ∷ vs) r few h = absurd (omega (arith, few))
many_complete gap part Part ih close none (suc n) s (v ∷ vs) r few h =
    let read = ih s v h.0 h.1 in
    let opened = open_yet part close s (sign_in close s) (v, h.0) none refl read in
    rw (opened, read, many_complete gap part Part ih close none n (gap h.0) vs r (omega (arith, few)) h.2) refl

pub fields_complete : (part : Ty → Reader) (Part : Spelling) → ((ty : Ty) (s : List ℕ) (v : Val) (r : List ℕ) → Part ty s v r → part ty s ≡ Some (v, r)) → (fs : List (List ℕ × Ty)) (s : List ℕ) (vs : List Val) (r : List ℕ) → FieldValues Part fs s vs r → fields_in part fs s ≡ Some (vs, r)
fields_complete part Part ih [] s [] r h = rw h refl
fields_complete part Part ih [] s (v ∷ vs) r h = absurd h
fields_complete part Part ih (f ∷ fs) s [] r h = absurd h
fields_complete part Part ih (f ∷ fs) s (v ∷ vs) r h = rw (ih f.1 (past_blanks s) v h.0 h.1, fields_complete part Part ih fs h.0 vs r h.2) refl

pub char_item_complete : (s : List ℕ) (v : Val) (r : List ℕ) → CharacterItem s v r → char_item s ≡ Some (v, r)
char_item_complete s v r h = rw (item_complete 34 h.0 s r h.2, h.1) refl

-- ---- levels

few_of : (lo : ℤ) (n : ℕ) → is_within lo n ≡ true → n ≤ 4194304
few_of lo n h = leb-true _ _ (and_left (nat_le n 4194304) _ h).0

module _ (below : ℕ) (part : Ty → Reader) (Part : Spelling) (ih : (ty : Ty) (s : List ℕ) (v : Val) (r : List ℕ) → Part ty s v r → part ty s ≡ Some (v, r)) (b_none : (ty : Ty) (t : List ℕ) → part ty (93 ∷ t) ≡ None) (s_none : (ty : Ty) (t : List ℕ) → part ty (125 ∷ t) ≡ None) where
  typed_level : (ty : Ty) (x : Ty-F Ty) (s : List ℕ) (v : Val) (r : List ℕ) → out-Ty ty ≡ x → typed_in below part x s ≡ Some (v, r) → level_in below part ty s ≡ Some (v, r)
  typed_level ty x s v r o e = rw (o, e) refl

  error_level : (ty : Ty) (s a : List ℕ) (v : Val) (r : List ℕ) → Word (codes "error") s a → error_in s ≡ Some (v, r) → level_in below part ty s ≡ Some (v, r)
  error_level ty s a v r w e =
      let none : typed_in below part (out-Ty ty) s ≡ None = rw w.spelled (typed_e below part (out-Ty ty) _) in
      rw (none, e) refl

  int_read : (z : ℤ) (s r : List ℕ) → Integer z s r → fits_64 z ≡ true → int_in s ≡ Some (val.Int z, r)
  unfolding int_in
  int_read z s r h f = rw (integer_complete z s r h f) refl

  yes_read : (s r : List ℕ) → Word (codes "T") s r → bool_in s ≡ Some (val.Bool true, r)
  unfolding bool_in
  yes_read s r w = rw (word_complete (codes "T") s r w) refl

  no_read : (s r : List ℕ) → Word (codes "F") s r → bool_in s ≡ Some (val.Bool false, r)
  unfolding bool_in
  no_read s r w = rw (w.spelled, w.alone) refl

  null_read : (s r : List ℕ) → Word (codes "nil") s r → null_in s ≡ Some (val.Null, r)
  unfolding null_in
  null_read s r w = rw (word_complete (codes "nil") s r w) refl

  char_read : (c : ℕ) (s a b r : List ℕ) → Sign 39 s a → Item 39 c a b → Sign 39 b r → char_in s ≡ Some (val.Char c, r)
  unfolding char_in
  char_read c s a b r o i e = rw (sign_complete 39 s a o, item_complete 39 c a b i, sign_complete 39 b r e) refl

  array_read_again : (element : Ty) (lo : ℤ) (vs : List Val) (s a b c r : List ℕ) → Sign 91 s a → Integer lo (past_blanks a) b → fits_64 lo ≡ true → Sign 58 (past_blanks b) c → Values past_blanks (Part element) 93 (past_blanks c) vs r → is_within lo (length vs) ≡ true → array_in (part element) s ≡ Some (val.Arr (bounded lo vs), r)
  unfolding array_in
  array_read_again element lo vs s a b c r o i f e h w =
      let bound : bound_in s ≡ Some (lo, c) = rw (sign_complete 91 s a o, integer_complete lo (past_blanks a) b i f, sign_complete 58 (past_blanks b) c e) refl in
      let read = many_complete past_blanks (part element) (Part element) (ih element) 93 (b_none element) 4194304 (past_blanks c) vs r (few_of lo (length vs) w) h in
      rw (bound, read, w) refl

  text_read_again : (vs : List Val) (s a r : List ℕ) → Sign 34 s a → Values no_gap CharacterItem 34 a vs r → is_within (pos 1) (length vs) ≡ true → has_room below vs ≡ true → text_in below s ≡ Some (val.Arr (bounded (pos 1) vs), r)
  unfolding text_in
  text_read_again vs s a r o h w room =
      let read = many_complete no_gap char_item CharacterItem char_item_complete 34 (λ t. refl) 4194304 a vs r (few_of (pos 1) (length vs) w) h in
      rw (sign_complete 34 s a o, read, room, w) refl

  text_typed : (vs : List Val) (s a r : List ℕ) → Sign 34 s a → Values no_gap CharacterItem 34 a vs r → is_within (pos 1) (length vs) ≡ true → has_room below vs ≡ true → typed_in below part (Ty-F.Arr type.Char) s ≡ Some (val.Arr (bounded (pos 1) vs), r)
  unfolding array_in
  text_typed vs s a r o h w room =
      let none : array_in (part type.Char) s ≡ None = rw o refl in
      rw (none, out_char) (text_read_again vs s a r o h w room)

  stream_read : (element : Ty) (vs : List Val) (s a r : List ℕ) → Sign 123 s a → Values past_blanks (Part element) 125 (past_blanks a) vs r → length vs ≤ 4194304 → stream_in (part element) s ≡ Some (val.Stream vs, r)
  unfolding stream_in
  stream_read element vs s a r o h few = rw (sign_complete 123 s a o, many_complete past_blanks (part element) (Part element) (ih element) 125 (s_none element) 4194304 (past_blanks a) vs r few h) refl

  record_read : (fs : List (List ℕ × Ty)) (vs : List Val) (s a b r : List ℕ) → Sign 60 s a → FieldValues Part fs a vs b → is_few (length fs) ≡ true → Sign 62 (past_blanks b) r → record_in part fs s ≡ Some (val.Rec vs, r)
  unfolding record_in
  record_read fs vs s a b r o h few e = rw (few, sign_complete 60 s a o, fields_complete part Part ih fs a vs b h, sign_complete 62 (past_blanks b) r e) refl

  union_read : (tags : List (List ℕ × Ty)) (n : ℕ) (tag : List ℕ × Ty) (w : Val) (s a b c d r : List ℕ) → Sign 40 s a → Number n (past_blanks a) b → n < 2 ^ 32 → Sign 58 (past_blanks b) c → slice_get tags n ≡ Some tag → Part tag.1 (past_blanks c) w d → Sign 41 (past_blanks d) r → union_in part tags s ≡ Some (val.Uni n w, r)
  unfolding union_in
  union_read tags n tag w s a b c d r o h small e at p x =
      let opened : tag_in s ≡ Some (n, c) = rw (sign_complete 40 s a o, number_complete n (past_blanks a) b h (omega (arith, small)), sign_complete 58 (past_blanks b) c e) refl in
      rw (opened, lt-ltb n (2 ^ 32) small, at, ih tag.1 (past_blanks c) w d p, sign_complete 41 (past_blanks d) r x) refl

  pub level_complete : (ty : Ty) (s : List ℕ) (v : Val) (r : List ℕ) → Alternative below Part ty s v r → level_in below part ty s ≡ Some (v, r)
  level_complete ty s v r (error w h e) = rw e (error_level ty s r (val.Err cause.Explicit) r w (error_in_alone s r w h))
  level_complete ty s v r (error_because c a b w h o e) = rw e (error_level ty s a (val.Err c) r w (error_in_complete c s a b r w h o))
  level_complete ty s v r (integer z t h f e) = rw e (typed_level ty Ty-F.Int s (val.Int z) r (ap out-Ty t ∙ out_int) (int_read z s r h f))
  level_complete ty s v r (yes t w e) = rw e (typed_level ty Ty-F.Bool s (val.Bool true) r (ap out-Ty t ∙ out_bool) (yes_read s r w))
  level_complete ty s v r (no t w e) = rw e (typed_level ty Ty-F.Bool s (val.Bool false) r (ap out-Ty t ∙ out_bool) (no_read s r w))
  level_complete ty s v r (character c a b t o i x e) = rw e (typed_level ty Ty-F.Char s (val.Char c) r (ap out-Ty t ∙ out_char) (char_read c s a b r o i x))
  level_complete ty s v r (nil t w e) = rw e (typed_level ty Ty-F.Null s val.Null r (ap out-Ty t ∙ out_null) (null_read s r w))
  level_complete ty s v r (array element lo vs a b c t o i f x h w e) =
      let read : typed_in below part (Ty-F.Arr element) s ≡ Some (val.Arr (bounded lo vs), r) = rw (array_read_again element lo vs s a b c r o i f x h w) refl in
      rw e (typed_level ty (Ty-F.Arr element) s (val.Arr (bounded lo vs)) r (ap out-Ty t ∙ out_arr element) read)
  level_complete ty s v r (text vs a t o h w room e) = rw e (typed_level ty (Ty-F.Arr type.Char) s (val.Arr (bounded (pos 1) vs)) r (ap out-Ty t ∙ out_arr type.Char) (text_typed vs s a r o h w room))
  level_complete ty s v r (stream element vs a t o h few e) = rw e (typed_level ty (Ty-F.Stream element) s (val.Stream vs) r (ap out-Ty t ∙ out_stream element) (stream_read element vs s a r o h few))
  level_complete ty s v r (fields fs vs a b t o h few x e) = rw e (typed_level ty (Ty-F.Rec fs) s (val.Rec vs) r (ap out-Ty t ∙ out_rec fs) (record_read fs vs s a b r o h few x))
  level_complete ty s v r (union tags n tag w a b c d t o h small x at p y e) = rw e (typed_level ty (Ty-F.Uni tags) s (val.Uni n w) r (ap out-Ty t ∙ out_uni tags) (union_read tags n tag w s a b c d r o h small x at p y))

pub part_complete : (n : ℕ) (ty : Ty) (s : List ℕ) (v : Val) (r : List ℕ) → PartAt n ty s v r → part_in n ty s ≡ Some (v, r)
part_complete zero ty s v r h = absurd h
part_complete (suc n) ty s v r h = level_complete n (part_in n) (PartAt n) (part_complete n) (part_b n) (part_s n) ty s v r h
