-- What is read at a type is in the grammar.
use Rattle.std.proofs.Common.{◌≡◌, ℕ, zero, suc, ◌+◌, ◌-◌, ◌*◌, ◌^◌, ◌<◌, ◌≤◌, ℤ, pos, neg_ℤ, Bool, true, false, cond, not, ◌||◌, ◌&&◌, eqb, ltb, leb, List, [], ◌∷◌, ◌++◌, length, Option, Some, None, refl, sym, ap, subst, ◌∙◌, inl, inr, ◌⊎◌, arith, rules, option_map, slice_get}
use Rattle.std.specs.Prelude.{codes, nat_le}
use Rattle.std.proofs.lemmas.Bool.{eqb-true, eq-eqb, ltb-true, leb-true}
use Rattle.std.proofs.lemmas.Option.{same_Some, some_pair_parts, cond_some}
use Rattle.flow_value.specs.Bounds.{bounded, is_few, is_within}
use Rattle.flow_value.specs.Scalar.{fits_64}
use Rattle.flow_value.specs.declared.cause.Cause.{Cause}
use Rattle.flow_value.specs.declared.cause.Cause.TheVariants as cause
use Rattle.flow_value.specs.declared.value.Val.{Val}
use Rattle.flow_value.specs.declared.value.Val.TheVariants as val
use Rattle.flow_value.specs.declared.ty.Ty.{Ty}
use Rattle.flow_value.specs.declared.ty.Ty.TheVariants as type
use Rattle.flow_value.specs.declared.ty.Ty.TheOpen.{Ty-F}
use Rattle.flow_value.specs.declared.ty.Ty.TheViews.{out-Ty, roll-Ty, the_lemmas}
use Rattle.value_text.specs.Tokens.{◌>>=◌, or_else, past_blanks, sign_in, word_in, number_in, integer_in, item_in}
use Rattle.value_text.specs.Reading.{Reader, with_rest, error_in, int_of, int_in, bool_in, null_in, char_in, many_in, fields_in, array_of, array_read, bound_in, array_in, stream_in, char_item, no_gap, has_room, text_read, text_in, record_in, tag_in, small_tag, content_in, union_in, text_at, typed_in, level_in, part_in, value_in}
use Rattle.value_text.specs.Grammar.{Sign, Word, Number, Integer, Item, Spelling, Values, FieldValues, CharacterItem, Alternative, error, error_because, integer, yes, no, character, nil, array, text, stream, fields, union, PartAt}
use Rattle.value_text.proofs.Steps.{bind_some, or_else_some, with_rest_some, sign_sound, word_sound, number_sound}
use Rattle.value_text.proofs.Sound.{integer_sound, item_sound, error_sound, many_sound, fields_sound, char_item_sound}

-- ---- the kinds of a type

pub is_int : (t : Ty) → out-Ty t ≡ Ty-F.Int → t ≡ type.Int
is_int t e = search (rules, the_lemmas)

pub is_bool : (t : Ty) → out-Ty t ≡ Ty-F.Bool → t ≡ type.Bool
is_bool t e = search (rules, the_lemmas)

pub is_char : (t : Ty) → out-Ty t ≡ Ty-F.Char → t ≡ type.Char
is_char t e = search (rules, the_lemmas)

pub is_null : (t : Ty) → out-Ty t ≡ Ty-F.Null → t ≡ type.Null
is_null t e = search (rules, the_lemmas)

pub is_arr : (t u : Ty) → out-Ty t ≡ Ty-F.Arr u → t ≡ type.Arr u
is_arr t u e = search (rules, the_lemmas)

pub is_stream : (t u : Ty) → out-Ty t ≡ Ty-F.Stream u → t ≡ type.Stream u
is_stream t u e = search (rules, the_lemmas)

pub is_rec : (t : Ty) (fs : List (List ℕ × Ty)) → out-Ty t ≡ Ty-F.Rec fs → t ≡ type.Rec fs
is_rec t fs e = search (rules, the_lemmas)

pub is_uni : (t : Ty) (fs : List (List ℕ × Ty)) → out-Ty t ≡ Ty-F.Uni fs → t ≡ type.Uni fs
is_uni t fs e = search (rules, the_lemmas)

pub out_int : out-Ty type.Int ≡ Ty-F.Int
out_int = search (rules, the_lemmas)

pub out_bool : out-Ty type.Bool ≡ Ty-F.Bool
out_bool = search (rules, the_lemmas)

pub out_char : out-Ty type.Char ≡ Ty-F.Char
out_char = search (rules, the_lemmas)

pub out_null : out-Ty type.Null ≡ Ty-F.Null
out_null = search (rules, the_lemmas)

pub out_arr : (u : Ty) → out-Ty (type.Arr u) ≡ Ty-F.Arr u
out_arr u = search (rules, the_lemmas)

pub out_stream : (u : Ty) → out-Ty (type.Stream u) ≡ Ty-F.Stream u
out_stream u = search (rules, the_lemmas)

pub out_rec : (fs : List (List ℕ × Ty)) → out-Ty (type.Rec fs) ≡ Ty-F.Rec fs
out_rec fs = search (rules, the_lemmas)

pub out_uni : (fs : List (List ℕ × Ty)) → out-Ty (type.Uni fs) ≡ Ty-F.Uni fs
out_uni fs = search (rules, the_lemmas)

-- ---- aggregates

and_left : (a b : Bool) → (a && b) ≡ true → (a ≡ true) × (b ≡ true)
and_left true b e = (refl, e)
and_left false b e = absurd cc

guard_some : {A : Type 0} (b : Bool) (o : Option A) (y : A) → cond b o None ≡ Some y → (b ≡ true) × (o ≡ Some y)
guard_some true o y e = (refl, e)
guard_some false o y e = absurd cc

array_of_some : (lo : ℤ) (vs : List Val) (v : Val) → array_of lo vs ≡ Some v → (is_within lo (length vs) ≡ true) × (v ≡ val.Arr (bounded lo vs))
array_of_some lo vs v e = let p = cond_some (is_within lo (length vs)) (val.Arr (bounded lo vs)) v e in (p.0, sym p.1)

array_read_some : (lo : ℤ) (p : List Val × List ℕ) (v : Val) (r : List ℕ) → array_read lo p ≡ Some (v, r) → (is_within lo (length p.0) ≡ true) × (v ≡ val.Arr (bounded lo p.0)) × (p.1 ≡ r)
array_read_some lo p v r e =
    let b = bind_some (array_of lo p.0) (λ (w : Val). Some (w, p.1)) (v, r) e in
    let q = some_pair_parts b.0 v p.1 r b.2 in
    let a = array_of_some lo p.0 b.0 b.1 in
    (a.0, sym q.0 ∙ a.1, q.1)

module _ (below : ℕ) (part : Ty → Reader) (Part : Spelling) (ih : (ty : Ty) (s : List ℕ) (v : Val) (r : List ℕ) → part ty s ≡ Some (v, r) → Part ty s v r) where
  array_sound : (ty element : Ty) (s : List ℕ) (v : Val) (r : List ℕ) → ty ≡ type.Arr element → array_in (part element) s ≡ Some (v, r) → Alternative below Part ty s v r
  unfolding array_in
  array_sound ty element s v r t e =
      let b = bind_some (bound_in s) (λ (p : ℤ × List ℕ). many_in past_blanks (part element) 93 4194304 (past_blanks p.1) >>= array_read p.0) (v, r) e in
      let m = bind_some (many_in past_blanks (part element) 93 4194304 (past_blanks b.0.1)) (array_read b.0.0) (v, r) b.2 in
      let a = array_read_some b.0.0 m.0 v r m.2 in
      let o = bind_some (sign_in 91 s) (λ (x : List ℕ). integer_in (past_blanks x) >>= (λ (p : ℤ × List ℕ). with_rest p.0 (sign_in 58 (past_blanks p.1)))) b.0 b.1 in
      let i = bind_some (integer_in (past_blanks o.0)) (λ (p : ℤ × List ℕ). with_rest p.0 (sign_in 58 (past_blanks p.1))) b.0 o.2 in
      let w = with_rest_some i.0.0 b.0.0 (sign_in 58 (past_blanks i.0.1)) b.0.1 i.2 in
      let z = integer_sound b.0.0 (past_blanks o.0) i.0.1 (i.1 ∙ ap (λ (x : ℤ). Some (x, i.0.1)) w.1) in
      let vs = many_sound past_blanks (part element) (Part element) (ih element) 93 4194304 (past_blanks b.0.1) m.0.0 r (m.1 ∙ ap (λ (x : List ℕ). Some (m.0.0, x)) a.2) in
      array element b.0.0 m.0.0 o.0 i.0.1 b.0.1 t (sign_sound 91 s o.0 o.1) z.0 z.1 (sign_sound 58 (past_blanks i.0.1) b.0.1 w.0) vs.0 a.0 a.1

  text_sound : (ty : Ty) (s : List ℕ) (v : Val) (r : List ℕ) → ty ≡ type.Arr type.Char → text_in below s ≡ Some (v, r) → Alternative below Part ty s v r
  unfolding text_in
  text_sound ty s v r t e =
      let b = bind_some (sign_in 34 s) (λ (a : List ℕ). many_in no_gap char_item 34 4194304 a >>= text_read below) (v, r) e in
      let m = bind_some (many_in no_gap char_item 34 4194304 b.0) (text_read below) (v, r) b.2 in
      let g = guard_some (has_room below m.0.0) (array_read (pos 1) m.0) (v, r) m.2 in
      let a = array_read_some (pos 1) m.0 v r g.1 in
      let vs = many_sound no_gap char_item CharacterItem char_item_sound 34 4194304 b.0 m.0.0 r (m.1 ∙ ap (λ (x : List ℕ). Some (m.0.0, x)) a.2) in
      text m.0.0 b.0 t (sign_sound 34 s b.0 b.1) vs.0 a.0 g.0 a.1

  stream_sound : (ty element : Ty) (s : List ℕ) (v : Val) (r : List ℕ) → ty ≡ type.Stream element → stream_in (part element) s ≡ Some (v, r) → Alternative below Part ty s v r
  unfolding stream_in
  stream_sound ty element s v r t e =
      let b = bind_some (sign_in 123 s) (λ (a : List ℕ). many_in past_blanks (part element) 125 4194304 (past_blanks a) >>= (λ (p : List Val × List ℕ). Some (val.Stream p.0, p.1))) (v, r) e in
      let m = bind_some (many_in past_blanks (part element) 125 4194304 (past_blanks b.0)) (λ (p : List Val × List ℕ). Some (val.Stream p.0, p.1)) (v, r) b.2 in
      let q = some_pair_parts (val.Stream m.0.0) v m.0.1 r m.2 in
      let vs = many_sound past_blanks (part element) (Part element) (ih element) 125 4194304 (past_blanks b.0) m.0.0 r (m.1 ∙ ap (λ (x : List ℕ). Some (m.0.0, x)) q.1) in
      stream element m.0.0 b.0 t (sign_sound 123 s b.0 b.1) vs.0 vs.1 (sym q.0)

  record_sound : (ty : Ty) (fs : List (List ℕ × Ty)) (s : List ℕ) (v : Val) (r : List ℕ) → ty ≡ type.Rec fs → record_in part fs s ≡ Some (v, r) → Alternative below Part ty s v r
  unfolding record_in
  record_sound ty fs s v r t e =
      let g = guard_some (is_few (length fs)) (sign_in 60 s >>= (λ (a : List ℕ). fields_in part fs a >>= (λ (p : List Val × List ℕ). with_rest (val.Rec p.0) (sign_in 62 (past_blanks p.1))))) (v, r) e in
      let b = bind_some (sign_in 60 s) (λ (a : List ℕ). fields_in part fs a >>= (λ (p : List Val × List ℕ). with_rest (val.Rec p.0) (sign_in 62 (past_blanks p.1)))) (v, r) g.1 in
      let m = bind_some (fields_in part fs b.0) (λ (p : List Val × List ℕ). with_rest (val.Rec p.0) (sign_in 62 (past_blanks p.1))) (v, r) b.2 in
      let w = with_rest_some (val.Rec m.0.0) v (sign_in 62 (past_blanks m.0.1)) r m.2 in
      fields fs m.0.0 b.0 m.0.1 t (sign_sound 60 s b.0 b.1) (fields_sound part Part ih fs b.0 m.0.0 m.0.1 m.1) g.0 (sign_sound 62 (past_blanks m.0.1) r w.0) (sym w.1)

  content_sound : (ty : Ty) (tags : List (List ℕ × Ty)) (n : ℕ) (s a b c : List ℕ) (o : Option (List ℕ × Ty)) (v : Val) (r : List ℕ) → ty ≡ type.Uni tags → Sign 40 s a → Number n (past_blanks a) b → n < 2 ^ 32 → Sign 58 (past_blanks b) c → slice_get tags n ≡ o → content_in part n o c ≡ Some (v, r) → Alternative below Part ty s v r
  content_sound ty tags n s a b c None v r t opened number small colon at e = absurd cc
  content_sound ty tags n s a b c (Some tag) v r t opened number small colon at e =
      let m = bind_some (part tag.1 (past_blanks c)) (λ (p : Val × List ℕ). with_rest (val.Uni n p.0) (sign_in 41 (past_blanks p.1))) (v, r) e in
      let w = with_rest_some (val.Uni n m.0.0) v (sign_in 41 (past_blanks m.0.1)) r m.2 in
      union tags n tag m.0.0 a b c m.0.1 t opened number small colon at (ih tag.1 (past_blanks c) m.0.0 m.0.1 m.1) (sign_sound 41 (past_blanks m.0.1) r w.0) (sym w.1)

  union_sound : (ty : Ty) (tags : List (List ℕ × Ty)) (s : List ℕ) (v : Val) (r : List ℕ) → ty ≡ type.Uni tags → union_in part tags s ≡ Some (v, r) → Alternative below Part ty s v r
  unfolding union_in
  union_sound ty tags s v r t e =
      let b = bind_some (tag_in s) (λ (p : ℕ × List ℕ). small_tag p.0 >>= (λ (n : ℕ). content_in part n (slice_get tags n) p.1)) (v, r) e in
      let k = bind_some (small_tag b.0.0) (λ (n : ℕ). content_in part n (slice_get tags n) b.0.1) (v, r) b.2 in
      let small = cond_some (ltb b.0.0 (2 ^ 32)) b.0.0 k.0 k.1 in
      let o = bind_some (sign_in 40 s) (λ (x : List ℕ). number_in (past_blanks x) >>= (λ (p : ℕ × List ℕ). with_rest p.0 (sign_in 58 (past_blanks p.1)))) b.0 b.1 in
      let i = bind_some (number_in (past_blanks o.0)) (λ (p : ℕ × List ℕ). with_rest p.0 (sign_in 58 (past_blanks p.1))) b.0 o.2 in
      let w = with_rest_some i.0.0 b.0.0 (sign_in 58 (past_blanks i.0.1)) b.0.1 i.2 in
      let n : i.0.0 ≡ k.0 = w.1 ∙ small.1 in
      let z = number_sound k.0 (past_blanks o.0) i.0.1 (i.1 ∙ ap (λ (x : ℕ). Some (x, i.0.1)) n) in
      content_sound ty tags k.0 s o.0 i.0.1 b.0.1 (slice_get tags k.0) v r t (sign_sound 40 s o.0 o.1) z.0 (rw (← small.1) (ltb-true _ _ small.0)) (sign_sound 58 (past_blanks i.0.1) b.0.1 w.0) refl k.2

  -- ---- scalars

  int_sound : (ty : Ty) (s : List ℕ) (v : Val) (r : List ℕ) → ty ≡ type.Int → int_in s ≡ Some (v, r) → Alternative below Part ty s v r
  unfolding int_in
  int_sound ty s v r t e =
      let b = bind_some (integer_in s) int_of (v, r) e in
      let q = some_pair_parts (val.Int b.0.0) v b.0.1 r b.2 in
      let z = integer_sound b.0.0 s r (b.1 ∙ ap (λ (x : List ℕ). Some (b.0.0, x)) q.1) in
      integer b.0.0 t z.0 z.1 (sym q.0)

  bool_sound : (ty : Ty) (s : List ℕ) (v : Val) (r : List ℕ) → ty ≡ type.Bool → bool_in s ≡ Some (v, r) → Alternative below Part ty s v r
  unfolding bool_in
  bool_sound ty s v r t e =
      elim (or_else_some _ _ _ e) [
        | inl h ↦ let w = with_rest_some (val.Bool true) v (word_in (codes "T") s) r h in yes t (word_sound (codes "T") s r w.0) (sym w.1)
        | inr h ↦ let w = with_rest_some (val.Bool false) v (word_in (codes "F") s) r h.1 in no t (word_sound (codes "F") s r w.0) (sym w.1)
      ]

  null_sound : (ty : Ty) (s : List ℕ) (v : Val) (r : List ℕ) → ty ≡ type.Null → null_in s ≡ Some (v, r) → Alternative below Part ty s v r
  unfolding null_in
  null_sound ty s v r t e = let w = with_rest_some val.Null v (word_in (codes "nil") s) r e in nil t (word_sound (codes "nil") s r w.0) (sym w.1)

  char_sound : (ty : Ty) (s : List ℕ) (v : Val) (r : List ℕ) → ty ≡ type.Char → char_in s ≡ Some (v, r) → Alternative below Part ty s v r
  unfolding char_in
  char_sound ty s v r t e =
      let b = bind_some (sign_in 39 s) (λ (x : List ℕ). item_in 39 x >>= (λ (p : ℕ × List ℕ). with_rest (val.Char p.0) (sign_in 39 p.1))) (v, r) e in
      let i = bind_some (item_in 39 b.0) (λ (p : ℕ × List ℕ). with_rest (val.Char p.0) (sign_in 39 p.1)) (v, r) b.2 in
      let w = with_rest_some (val.Char i.0.0) v (sign_in 39 i.0.1) r i.2 in
      character i.0.0 b.0 i.0.1 t (sign_sound 39 s b.0 b.1) (item_sound 39 i.0.0 b.0 i.0.1 i.1) (sign_sound 39 i.0.1 r w.0) (sym w.1)

  -- ---- levels

  text_at_sound : (ty element : Ty) (x : Ty-F Ty) (s : List ℕ) (v : Val) (r : List ℕ) → ty ≡ type.Arr element → out-Ty element ≡ x → text_at below x s ≡ Some (v, r) → Alternative below Part ty s v r
  text_at_sound ty element Ty-F.Char s v r t o e = text_sound ty s v r (t ∙ ap (λ (u : Ty). type.Arr u) (is_char element o)) e
  text_at_sound ty element Ty-F.Int s v r t o e = absurd cc
  text_at_sound ty element Ty-F.Bool s v r t o e = absurd cc
  text_at_sound ty element Ty-F.Null s v r t o e = absurd cc
  text_at_sound ty element (Ty-F.Arr u) s v r t o e = absurd cc
  text_at_sound ty element (Ty-F.Stream u) s v r t o e = absurd cc
  text_at_sound ty element (Ty-F.Rec fs) s v r t o e = absurd cc
  text_at_sound ty element (Ty-F.Uni fs) s v r t o e = absurd cc

  typed_sound : (ty : Ty) (x : Ty-F Ty) (s : List ℕ) (v : Val) (r : List ℕ) → out-Ty ty ≡ x → typed_in below part x s ≡ Some (v, r) → Alternative below Part ty s v r
  typed_sound ty Ty-F.Int s v r o e = int_sound ty s v r (is_int ty o) e
  typed_sound ty Ty-F.Bool s v r o e = bool_sound ty s v r (is_bool ty o) e
  typed_sound ty Ty-F.Char s v r o e = char_sound ty s v r (is_char ty o) e
  typed_sound ty Ty-F.Null s v r o e = null_sound ty s v r (is_null ty o) e
  typed_sound ty (Ty-F.Arr u) s v r o e =
      elim (or_else_some _ _ _ e) [
        | inl h ↦ array_sound ty u s v r (is_arr ty u o) h
        | inr h ↦ text_at_sound ty u (out-Ty u) s v r (is_arr ty u o) refl h.1
      ]
  typed_sound ty (Ty-F.Stream u) s v r o e = stream_sound ty u s v r (is_stream ty u o) e
  typed_sound ty (Ty-F.Rec fs) s v r o e = record_sound ty fs s v r (is_rec ty fs o) e
  typed_sound ty (Ty-F.Uni fs) s v r o e = union_sound ty fs s v r (is_uni ty fs o) e

  pub level_sound : (ty : Ty) (s : List ℕ) (v : Val) (r : List ℕ) → level_in below part ty s ≡ Some (v, r) → Alternative below Part ty s v r
  level_sound ty s v r e =
      elim (or_else_some _ _ _ e) [
        | inl h ↦ typed_sound ty (out-Ty ty) s v r refl h
        | inr h ↦ error_sound below Part ty s v r h.1
      ]

pub part_sound : (n : ℕ) (ty : Ty) (s : List ℕ) (v : Val) (r : List ℕ) → part_in n ty s ≡ Some (v, r) → PartAt n ty s v r
part_sound zero ty s v r e = absurd cc
part_sound (suc n) ty s v r e = level_sound n (part_in n) (PartAt n) (part_sound n) ty s v r e
