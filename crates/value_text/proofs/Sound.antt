-- What is read is in the grammar.
use Rattle.std.proofs.Common.{◌≡◌, ℕ, zero, suc, ◌+◌, ◌-◌, ◌*◌, ◌^◌, ◌<◌, ◌≤◌, ℤ, pos, neg_ℤ, Bool, true, false, cond, not, ◌||◌, ◌&&◌, eqb, ltb, leb, List, [], ◌∷◌, ◌++◌, length, Option, Some, None, refl, sym, ap, subst, ◌∙◌, inl, inr, ◌⊎◌, arith, rules, option_map, slice_get}
use Rattle.std.specs.Prelude.{codes, nat_le}
use Rattle.std.proofs.lemmas.Bool.{eqb-true, eq-eqb, ltb-true, leb-true}
use Rattle.std.proofs.lemmas.Option.{same_Some, some_pair_parts, cond_some}
use Rattle.flow_value.specs.Bounds.{bounded, is_few, is_within}
use Rattle.flow_value.specs.Scalar.{fits_64}
use Rattle.flow_value.specs.declared.cause.Cause.{Cause}
use Rattle.flow_value.specs.declared.cause.Cause.TheVariants as cause
use Rattle.flow_value.specs.declared.value.Val.{Val}
use Rattle.flow_value.specs.declared.value.Val.TheVariants as val
use Rattle.flow_value.specs.declared.ty.Ty.{Ty}
use Rattle.flow_value.specs.declared.ty.Ty.TheVariants as type
use Rattle.flow_value.specs.declared.ty.Ty.TheOpen.{Ty-F}
use Rattle.flow_value.specs.declared.ty.Ty.TheViews.{out-Ty, roll-Ty, the_lemmas}
use Rattle.value_text.specs.Tokens.{◌>>=◌, or_else, past_blanks, sign_in, word_in, number_in, integer_in, signed_by, not_negative, negated, fitting, item_in, escape_in, escape_of, hex_in, hex_digit, is_plain}
use Rattle.value_text.specs.Reading.{Reader, with_rest, cause_in, cause_after, closed_error, error_in, int_of, int_in, bool_in, null_in, char_in, with_part, many_in, fields_in, array_of, array_read, bound_in, array_in, stream_in, char_of, char_item, no_gap, has_room, text_read, text_in, record_in, tag_in, small_tag, content_in, union_in, text_at, typed_in, level_in, part_in, value_in, at_end, text_value, is_nil}
use Rattle.value_text.specs.Grammar.{Sign, Word, Number, Integer, plain, minus, Item, itself, escaped, coded, cause_word, Spelling, Because, Values, FieldValues, CharacterItem, Alternative, error, error_because, integer, yes, no, character, nil, array, text, stream, fields, union, PartAt, reads_value}
use Rattle.value_text.proofs.Steps.{bind_some, or_else_some, with_rest_some, sign_sound, sign_complete, word_sound, number_sound}

-- ---- integers

map_some : {A B : Type 0} (f : A → B) (o : Option A) (y : B) → option_map f o ≡ Some y → (x : A) × (o ≡ Some x) × (f x ≡ y)
map_some f None y e = absurd cc
map_some f (Some x) y e = (x, refl, same_Some (f x) y e)

signed_sound : (s : List ℕ) (o : Option (List ℕ)) (q : ℤ × List ℕ) → sign_in 45 s ≡ o → signed_by s o ≡ Some q → Integer q.0 s q.1
signed_sound s None q e h =
    let m = map_some not_negative (number_in s) q h in
    let n = number_sound m.0.0 s m.0.1 m.1 in
    subst (λ (p : ℤ × List ℕ). Integer p.0 s p.1) m.2 (plain m.0.0 n.0 refl)
signed_sound s (Some t) q e h =
    let m = map_some negated (number_in (past_blanks t)) q h in
    let n = number_sound m.0.0 (past_blanks t) m.0.1 m.1 in
    subst (λ (p : ℤ × List ℕ). Integer p.0 s p.1) m.2 (minus m.0.0 t (sign_sound 45 s t e) n.0 refl)

pub integer_sound : (z : ℤ) (s r : List ℕ) → integer_in s ≡ Some (z, r) → Integer z s r × (fits_64 z ≡ true)
integer_sound z s r e =
    let b = bind_some (signed_by s (sign_in 45 s)) fitting (z, r) e in
    let g = cond_some (fits_64 b.0.0) b.0 (z, r) b.2 in
    subst (λ (p : ℤ × List ℕ). Integer p.0 s p.1 × (fits_64 p.0 ≡ true)) g.1 (signed_sound s (sign_in 45 s) b.0 refl b.1, g.0)

-- ---- items

choose_some : {A : Type 0} (b : Bool) (x o : Option A) (y : A) → cond b x o ≡ Some y → ((b ≡ true) × (x ≡ Some y)) ⊎ ((b ≡ false) × (o ≡ Some y))
choose_some true x o y e = inl (refl, e)
choose_some false x o y e = inr (refl, e)

hex_sound : (quote c : ℕ) (t r : List ℕ) → hex_in t ≡ Some (c, r) → Item quote c (92 ∷ 120 ∷ t) r
hex_sound quote c [] r e = absurd cc
hex_sound quote c (h ∷ []) r e = absurd cc
hex_sound quote c (h ∷ l ∷ t) r e =
    let w : (cond (nat_le 48 h && nat_le h 55) (option_map (λ low. ((h - 48) * 16 + low, t)) (hex_digit l)) None) ≡ Some (c, r) = e in
    elim (choose_some (nat_le 48 h && nat_le h 55) (option_map (λ (low : ℕ). ((h - 48) * 16 + low, t)) (hex_digit l)) None (c, r) w) [
      | inl p ↦
          let m = map_some (λ (low : ℕ). ((h - 48) * 16 + low, t)) (hex_digit l) (c, r) p.1 in
          coded h l m.0 p.0 m.1 (sym (ap (λ (q : ℕ × List ℕ). q.0) m.2)) (ap (λ (q : ℕ × List ℕ). 92 ∷ 120 ∷ h ∷ l ∷ q.1) m.2)
      | inr p ↦ absurd (none_some (c, r) p.1)
    ]
  where
    none_some : {A : Type 0} (x : A) → None ≡ Some x → ⊥
    none_some x e = cc

escape_sound : (quote c : ℕ) (t r : List ℕ) → escape_in t ≡ Some (c, r) → Item quote c (92 ∷ t) r
escape_sound quote c [] r e = absurd cc
escape_sound quote c (d ∷ t) r e =
    elim (choose_some (eqb d 120) (hex_in t) (option_map (λ (x : ℕ). (x, t)) (escape_of d)) (c, r) e) [
      | inl p ↦ rw (eqb-true d 120 p.0) (hex_sound quote c t r p.1)
      | inr p ↦
          let m = map_some (λ (x : ℕ). (x, t)) (escape_of d) (c, r) p.1 in
          escaped d (m.1 ∙ ap (λ (q : ℕ × List ℕ). Some q.0) m.2) (ap (λ (q : ℕ × List ℕ). 92 ∷ d ∷ q.1) m.2)
    ]

pub item_sound : (quote c : ℕ) (s r : List ℕ) → item_in quote s ≡ Some (c, r) → Item quote c s r
item_sound quote c [] r e = absurd cc
item_sound quote c (d ∷ t) r e =
    elim (choose_some (eqb d 92) (escape_in t) (cond (is_plain quote d) (Some (d, t)) None) (c, r) e) [
      | inl p ↦ rw (eqb-true d 92 p.0) (escape_sound quote c t r p.1)
      | inr p ↦
          let g = cond_some (is_plain quote d) (d, t) (c, r) p.1 in
          itself (rw (← ap (λ (q : ℕ × List ℕ). q.0) g.1) g.0) (ap (λ (q : ℕ × List ℕ). q.0 ∷ q.1) g.1)
    ]

-- ---- errors

word_said : (c : Cause) (s : List ℕ) (d : Cause) (r : List ℕ) → with_rest c (word_in (cause_word c) s) ≡ Some (d, r) → Word (cause_word d) s r
word_said c s d r e =
    let p = with_rest_some c d (word_in (cause_word c) s) r e in
    subst (λ (x : Cause). Word (cause_word x) s r) p.1 (word_sound (cause_word c) s r p.0)

pub cause_sound : (s : List ℕ) (d : Cause) (r : List ℕ) → cause_in s ≡ Some (d, r) → Word (cause_word d) s r
cause_sound s d r e =
    elim (or_else_some _ _ _ e) [
      | inl p ↦ word_said cause.Overflow s d r p
      | inr p ↦ elim (or_else_some _ _ _ p.1) [
        | inl p ↦ word_said cause.Zero s d r p
        | inr p ↦ elim (or_else_some _ _ _ p.1) [
          | inl p ↦ word_said cause.Bounds s d r p
          | inr p ↦ elim (or_else_some _ _ _ p.1) [
            | inl p ↦ word_said cause.Empty s d r p
            | inr p ↦ elim (or_else_some _ _ _ p.1) [
              | inl p ↦ word_said cause.Size s d r p
              | inr p ↦ elim (or_else_some _ _ _ p.1) [
                | inl p ↦ word_said cause.Tag s d r p
                | inr p ↦ word_said cause.Explicit s d r p.1
              ]
            ]
          ]
        ]
      ]
    ]

pub because_sound : (s : List ℕ) (c : Cause) (r : List ℕ) → cause_after s ≡ Some (c, r) → Because c s r
because_sound s c r e =
    let b = bind_some (sign_in 40 (past_blanks s)) (λ (t : List ℕ). cause_in (past_blanks t)) (c, r) e in
    record { inner = b.0; opened = sign_sound 40 (past_blanks s) b.0 b.1; word = cause_sound (past_blanks b.0) c r b.2 }

because_complete_word : (c : Cause) (s r : List ℕ) → Word (cause_word c) s r → cause_in s ≡ Some (c, r)
because_complete_word cause.Overflow s r h = rw (h.spelled, h.alone) refl
because_complete_word cause.Zero s r h = rw (h.spelled, h.alone) refl
because_complete_word cause.Bounds s r h = rw (h.spelled, h.alone) refl
because_complete_word cause.Empty s r h = rw (h.spelled, h.alone) refl
because_complete_word cause.Size s r h = rw (h.spelled, h.alone) refl
because_complete_word cause.Tag s r h = rw (h.spelled, h.alone) refl
because_complete_word cause.Explicit s r h = rw (h.spelled, h.alone) refl

pub because_complete : (c : Cause) (s r : List ℕ) → Because c s r → cause_after s ≡ Some (c, r)
because_complete c s r h = rw (sign_complete 40 (past_blanks s) h.inner h.opened) (because_complete_word c (past_blanks h.inner) r h.word)

none_some : {A : Type 0} (x : A) → None ≡ Some x → ⊥
none_some x e = cc

closed_sound : (below : ℕ) (Part : Spelling) (ty : Ty) (s a : List ℕ) (o : Option (Cause × List ℕ)) (v : Val) (r : List ℕ) → Word (codes "error") s a → cause_after a ≡ o → closed_error a o ≡ Some (v, r) → Alternative below Part ty s v r
closed_sound below Part ty s a None v r w e h =
    let p = some_pair_parts (val.Err cause.Explicit) v a r h in
    error (subst (λ (x : List ℕ). Word (codes "error") s x) p.1 w) (λ c t b. none_some (c, t) (sym e ∙ because_complete c a t (rw p.1 b))) (sym p.0)
closed_sound below Part ty s a (Some q) v r w e h =
    let p = with_rest_some (val.Err q.0) v (sign_in 41 (past_blanks q.1)) r h in
    error_because q.0 a q.1 w (because_sound a q.0 q.1 e) (sign_sound 41 (past_blanks q.1) r p.0) (sym p.1)

pub error_sound : (below : ℕ) (Part : Spelling) (ty : Ty) (s : List ℕ) (v : Val) (r : List ℕ) → error_in s ≡ Some (v, r) → Alternative below Part ty s v r
unfolding error_in
error_sound below Part ty s v r e =
    let b = bind_some (word_in (codes "error") s) (λ (a : List ℕ). closed_error a (cause_after a)) (v, r) e in
    closed_sound below Part ty s b.0 (cause_after b.0) v r (word_sound (codes "error") s b.0 b.1) refl b.2

-- ---- parts

with_part_some : (v : Val) (o : Option (List Val × List ℕ)) (vs : List Val) (r : List ℕ) → with_part v o ≡ Some (vs, r) → (ws : List Val) × (o ≡ Some (ws, r)) × (v ∷ ws ≡ vs)
with_part_some v None vs r e = absurd cc
with_part_some v (Some p) vs r e = let q = some_pair_parts (v ∷ p.0) vs p.1 r e in (p.0, ap (λ (x : List ℕ). Some (p.0, x)) q.1, q.0)

pub many_sound : (gap : List ℕ → List ℕ) (part : Reader) (Part : List ℕ → Val → List ℕ → Type 0) → ((s : List ℕ) (v : Val) (r : List ℕ) → part s ≡ Some (v, r) → Part s v r) → (close n : ℕ) (s : List ℕ) (vs : List Val) (r : List ℕ) → many_in gap part close n s ≡ Some (vs, r) → Values gap Part close s vs r × (length vs ≤ n)
unfolding many_in
many_sound gap part Part ih close zero s vs r e =
    let p = with_rest_some [] vs (sign_in close s) r e in
    subst (λ (x : List Val). Values gap Part close s x r × (length x ≤ 0)) p.1 (sign_sound close s r p.0, omega arith)
many_sound gap part Part ih close (suc n) s vs r e =
    elim (or_else_some _ _ _ e) [
      | inl h ↦
          let p = with_rest_some [] vs (sign_in close s) r h in
          subst (λ (x : List Val). Values gap Part close s x r × (length x ≤ suc n)) p.1 (sign_sound close s r p.0, omega arith)
      | inr h ↦
          let b = bind_some (part s) (λ (p : Val × List ℕ). with_part p.0 (many_in gap part close n (gap p.1))) (vs, r) h.1 in
          let w = with_part_some b.0.0 (many_in gap part close n (gap b.0.1)) vs r b.2 in
          let rest = many_sound gap part Part ih close n (gap b.0.1) w.0 r w.1 in
          subst (λ (x : List Val). Values gap Part close s x r × (length x ≤ suc n)) w.2 ((b.0.1, ih s b.0.0 b.0.1 b.1, rest.0), omega (arith, rest.1))
    ]

pub fields_sound : (part : Ty → Reader) (Part : Spelling) → ((ty : Ty) (s : List ℕ) (v : Val) (r : List ℕ) → part ty s ≡ Some (v, r) → Part ty s v r) → (fs : List (List ℕ × Ty)) (s : List ℕ) (vs : List Val) (r : List ℕ) → fields_in part fs s ≡ Some (vs, r) → FieldValues Part fs s vs r
fields_sound part Part ih [] s vs r e =
    let p = some_pair_parts [] vs s r e in
    subst (λ (x : List Val). FieldValues Part [] s x r) p.0 p.1
fields_sound part Part ih (f ∷ fs) s vs r e =
    let b = bind_some (part f.1 (past_blanks s)) (λ (p : Val × List ℕ). with_part p.0 (fields_in part fs p.1)) (vs, r) e in
    let w = with_part_some b.0.0 (fields_in part fs b.0.1) vs r b.2 in
    let rest = fields_sound part Part ih fs b.0.1 w.0 r w.1 in
    subst (λ (x : List Val). FieldValues Part (f ∷ fs) s x r) w.2 (b.0.1, ih f.1 (past_blanks s) b.0.0 b.0.1 b.1, rest)

pub char_item_sound : (s : List ℕ) (v : Val) (r : List ℕ) → char_item s ≡ Some (v, r) → CharacterItem s v r
char_item_sound s v r e =
    let b = bind_some (item_in 34 s) char_of (v, r) e in
    let p = some_pair_parts (val.Char b.0.0) v b.0.1 r b.2 in
    (b.0.0, sym p.0, item_sound 34 b.0.0 s r (b.1 ∙ ap (λ (x : List ℕ). Some (b.0.0, x)) p.1))
