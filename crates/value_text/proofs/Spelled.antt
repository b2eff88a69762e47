-- What a type's grammar has is a value text within the limits, of the type in each part.
use Rattle.std.proofs.Common.{◌≡◌, ℕ, zero, suc, ◌+◌, ◌^◌, ◌<◌, ◌≤◌, ℤ, Bool, true, false, cond, ◌&&◌, ltb, leb, List, [], ◌∷◌, ◌++◌, length, Option, Some, None, option_map, slice_get, refl, sym, ap, subst, ◌∙◌, arith}
use Rattle.std.specs.Prelude.{codes, nat_lt}
use Rattle.std.specs.Option.{is_some}
use Rattle.std.proofs.lemmas.Bool.{lt-ltb, le-leb, eq-eqb}
use Rattle.flow_value.specs.Bounds.{is_few, is_in_range, is_within as within_bounds}
use Rattle.flow_value.specs.declared.value.Val.{Val}
use Rattle.flow_value.specs.declared.ty.Ty.{Ty}
use Rattle.flow_value.specs.declared.ty.Ty.TheOpen.{Ty-F}
use Rattle.flow_value.specs.declared.ty.Ty.TheViews.{out-Ty}
use Rattle.value_text.specs.Tokens.{past_blanks, or_else}
use Rattle.value_text.specs.Reading.{no_gap, has_room}
use Rattle.value_text.specs.Grammar.{Sign, Spelling, Values, FieldValues, CharacterItem, Alternative, error, error_because, integer, yes, no, character, nil, array, text, stream, fields, union, PartAt, reads_value}
use Rattle.value_text.specs.Forms.{Form, Parts, none, part, Spells, SpellsParts, Items, SpellsForm, IsValueText}
use Rattle.value_text.specs.Forms as form
use Rattle.value_text.specs.Faults.{count, has_level, is_within, are_within, is_int, is_bool, is_char, is_null, is_array, is_text, is_stream, is_record, is_union, element_in, item_in_stream, fields_in_record, content_in_union, tag_type, type_at, unless_own, misfit, part_misfit, IsOfType}
use Rattle.value_text.specs.Surveying.{Look, look}
use Rattle.value_text.proofs.Levels.{out_int, out_bool, out_char, out_null, out_arr, out_stream, out_rec, out_uni}
use Rattle.value_text.proofs.Looks.{look_form}
use Rattle.value_text.proofs.Verdict.{some_looked}

record Formed (n : ℕ) (ty : Ty) (s r : List ℕ) : Type 0 where
  form : Form
  spelled : Spells form s r
  within : is_within form n ≡ true
  fits : (k : ℕ) → misfit form (Some ty) k ≡ None

record Listed (n : ℕ) (ty : Ty) (close size : ℕ) (s r : List ℕ) : Type 0 where
  parts : Parts
  spelled : SpellsParts parts close s r
  within : are_within parts n ≡ true
  size_is : count parts ≡ size
  fits : (i : ℕ) → part_misfit parts (Some ty) [] i ≡ None

record Fielded (n : ℕ) (gs : List (List ℕ × Ty)) (s r : List ℕ) : Type 0 where
  parts : Parts
  spelled : SpellsParts parts 62 s r
  within : are_within parts n ≡ true
  size_is : length gs ≡ count parts
  fits : (fs : List (List ℕ × Ty)) (i : ℕ) → ((j : ℕ) → slice_get fs (i + j) ≡ slice_get gs j) → part_misfit parts None fs i ≡ None

-- the items of a text, as many as its values
record Lettered (n size : ℕ) (s r : List ℕ) : Type 0 where
  codes_of : List ℕ
  spelled : Items codes_of s r
  size_is : length codes_of ≡ size

both_true : (a b : Bool) → a ≡ true → b ≡ true → (a && b) ≡ true
both_true true b e f = f
both_true false b e f = absurd cc

none_both : (a b : Option ℕ) → a ≡ None → b ≡ None → or_else a b ≡ None
none_both None b e f = f
none_both (Some x) b e f = absurd cc

one_on : (m n : ℕ) → m ≡ n → m + 1 ≡ suc n
one_on m n e = omega (arith, e)

one_off : (m n : ℕ) → m ≡ n → suc m ≡ n + 1
one_off m n e = omega (arith, e)

plus_none : (i : ℕ) → i + 0 ≡ i
plus_none i = omega arith

plus_next : (i j : ℕ) → i + 1 + j ≡ i + suc j
plus_next i j = omega arith

abbrev Forms : ℕ → Spelling → Type 0
Forms n Part = (ty : Ty) (s : List ℕ) (v : Val) (r : List ℕ) → Part ty s v r → Formed n ty s r

values_formed : (n : ℕ) (Part : Spelling) → Forms n Part → (ty : Ty) (close : ℕ) (vs : List Val) (s r : List ℕ) → Values past_blanks (Part ty) close s vs r → Listed n ty close (length vs) s r
values_formed n Part ih ty close [] s r h = record { parts = none; spelled = h; within = refl; size_is = refl; fits = λ i. refl }
values_formed n Part ih ty close (v ∷ vs) s r (t, h, k) =
    let f = ih ty s v t h in
    let ps = values_formed n Part ih ty close vs (past_blanks t) r k in
    record {
      parts = part (length s) f.form ps.parts;
      spelled = (t, refl, f.spelled, ps.spelled);
      within = both_true (is_within f.form n) (are_within ps.parts n) f.within ps.within;
      size_is = one_on (count ps.parts) (length vs) ps.size_is;
      fits = λ i. none_both (misfit f.form (Some ty) (length s)) (part_misfit ps.parts (Some ty) [] (i + 1)) (f.fits (length s)) (ps.fits (i + 1));
    }

fields_formed : (n : ℕ) (Part : Spelling) → Forms n Part → (gs : List (List ℕ × Ty)) (vs : List Val) (s b r : List ℕ) → FieldValues Part gs s vs b → Sign 62 (past_blanks b) r → Fielded n gs (past_blanks s) r
fields_formed n Part ih [] [] s b r h o = record { parts = none; spelled = subst (λ (x : List ℕ). Sign 62 (past_blanks x) r) (sym h) o; within = refl; size_is = refl; fits = λ fs i g. refl }
fields_formed n Part ih [] (v ∷ vs) s b r h o = absurd h
fields_formed n Part ih (x ∷ gs) [] s b r h o = absurd h
fields_formed n Part ih (x ∷ gs) (v ∷ vs) s b r (t, h, k) o =
    let f = ih x.1 (past_blanks s) v t h in
    let ps = fields_formed n Part ih gs vs t b r k o in
    record {
      parts = part (length (past_blanks s)) f.form ps.parts;
      spelled = (t, refl, f.spelled, ps.spelled);
      within = both_true (is_within f.form n) (are_within ps.parts n) f.within ps.within;
      size_is = one_off (length gs) (count ps.parts) ps.size_is;
      fits = λ fs i g.
          let at : slice_get fs i ≡ Some x = ap (slice_get fs) (sym (plus_none i)) ∙ g 0 in
          none_both (misfit f.form (type_at None fs i) (length (past_blanks s))) (part_misfit ps.parts None fs (i + 1))
          (ap (λ (y : Option (List ℕ × Ty)). misfit f.form (option_map (λ (z : List ℕ × Ty). z.1) y) (length (past_blanks s))) at ∙ f.fits (length (past_blanks s)))
          (ps.fits fs (i + 1) (λ j. ap (slice_get fs) (plus_next i j) ∙ g (suc j)));
    }

items_formed : (vs : List Val) (s r : List ℕ) → Values no_gap CharacterItem 34 s vs r → Lettered 0 (length vs) s r
items_formed [] s r h = record { codes_of = []; spelled = h; size_is = refl }
items_formed (v ∷ vs) s r (t, (c, e, i), k) =
    let cs = items_formed vs t r k in
    record { codes_of = c ∷ cs.codes_of; spelled = (t, i, cs.spelled); size_is = ap suc cs.size_is }

and_left : (a b : Bool) → (a && b) ≡ true → a ≡ true
and_left true b e = refl
and_left false b e = absurd cc

level_left : (n : ℕ) (cs : List ℕ) (vs : List Val) → length cs ≡ length vs → has_room n vs ≡ true → has_level n cs ≡ true
level_left n [] vs e h = refl
level_left n (c ∷ cs) [] e h = absurd cc
level_left n (c ∷ cs) (v ∷ vs) e h = h

narrow : (n : ℕ) → n < 2 ^ 32 → nat_lt n (2 ^ 63) ≡ true
narrow n h = lt-ltb n (2 ^ 63) (omega (arith, h))

module _ (n : ℕ) (Part : Spelling) (ih : Forms n Part) (ty : Ty) (s r : List ℕ) where
  scalar_formed : (f : Form) (x : Ty-F Ty) → out-Ty ty ≡ x → Spells f s r → is_within f (suc n) ≡ true → ((u : Ty) → out-Ty u ≡ x → (k : ℕ) → misfit f (Some u) k ≡ None) → Formed (suc n) ty s r
  scalar_formed f x o h w m = record { form = f; spelled = h; within = w; fits = m ty o }

  level_formed : (v : Val) → Alternative n Part ty s v r → Formed (suc n) ty s r
  level_formed v (error w h e) = record { form = form.error; spelled = (w, h); within = refl; fits = λ k. refl }
  level_formed v (error_because c a b w h o e) = record { form = form.error_because c; spelled = (a, b, w, h, o); within = refl; fits = λ k. refl }
  level_formed v (integer z t h f e) = scalar_formed (form.integer z) Ty-F.Int (ap out-Ty t ∙ out_int) h f (λ u o k. rw o refl)
  level_formed v (yes t w e) = scalar_formed (form.boolean true) Ty-F.Bool (ap out-Ty t ∙ out_bool) w refl (λ u o k. rw o refl)
  level_formed v (no t w e) = scalar_formed (form.boolean false) Ty-F.Bool (ap out-Ty t ∙ out_bool) w refl (λ u o k. rw o refl)
  level_formed v (character c a b t o i x e) = scalar_formed (form.character c) Ty-F.Char (ap out-Ty t ∙ out_char) (a, b, o, i, x) refl (λ u q k. rw q refl)
  level_formed v (nil t w e) = scalar_formed form.nil Ty-F.Null (ap out-Ty t ∙ out_null) w refl (λ u o k. rw o refl)
  level_formed v (array element lo vs a b c t o i f x h w e) =
      let ps = values_formed n Part ih element 93 vs (past_blanks c) r h in
      record {
        form = form.array lo ps.parts;
        spelled = (a, b, c, o, i, x, ps.spelled);
        within = both_true _ _ f (both_true _ _ ps.within (subst (λ (y : ℕ). within_bounds lo y ≡ true) (sym ps.size_is) w));
        fits = λ k. subst (λ (y : Ty-F Ty). unless_own (is_array y) k (part_misfit ps.parts (element_in y) [] 0) ≡ None) (sym (ap out-Ty t ∙ out_arr element)) (ps.fits 0);
      }
  level_formed v (text vs a t o h w room e) =
      let cs = items_formed vs a r h in
      record {
        form = form.characters cs.codes_of;
        spelled = (a, o, cs.spelled);
        within = both_true (is_few (length cs.codes_of)) (has_level n cs.codes_of) (subst (λ (y : ℕ). is_few y ≡ true) (sym cs.size_is) (and_left (is_few (length vs)) _ w)) (level_left n cs.codes_of vs cs.size_is room);
        fits = λ k. subst (λ (y : Ty-F Ty). unless_own (is_text y) k None ≡ None) (sym (ap out-Ty t ∙ out_arr _)) (rw out_char refl);
      }
  level_formed v (stream element vs a t o h few e) =
      let ps = values_formed n Part ih element 125 vs (past_blanks a) r h in
      record {
        form = form.stream ps.parts;
        spelled = (a, o, ps.spelled);
        within = both_true (are_within ps.parts n) (is_few (count ps.parts)) ps.within (subst (λ (y : ℕ). is_few y ≡ true) (sym ps.size_is) (le-leb (length vs) 4194304 few));
        fits = λ k. subst (λ (y : Ty-F Ty). unless_own (is_stream y) k (part_misfit ps.parts (item_in_stream y) [] 0) ≡ None) (sym (ap out-Ty t ∙ out_stream element)) (ps.fits 0);
      }
  level_formed v (fields fs vs a b t o h few x e) =
      let ps = fields_formed n Part ih fs vs a b r h x in
      record {
        form = form.fields ps.parts;
        spelled = (a, o, ps.spelled);
        within = both_true (are_within ps.parts n) (is_few (count ps.parts)) ps.within (subst (λ (y : ℕ). is_few y ≡ true) ps.size_is few);
        fits = λ k. subst (λ (y : Ty-F Ty). unless_own (is_record (count ps.parts) y) k (part_misfit ps.parts None (fields_in_record y) 0) ≡ None) (sym (ap out-Ty t ∙ out_rec fs)) (own_fields ps k);
      }
    where
      none_plus : (j : ℕ) → 0 + j ≡ j
      none_plus j = omega arith

      own_fields : (ps : Fielded n fs (past_blanks a) r) (k : ℕ) → unless_own (is_record (count ps.parts) (Ty-F.Rec fs)) k (part_misfit ps.parts None fs 0) ≡ None
      own_fields ps k = rw (eq-eqb (length fs) (count ps.parts) ps.size_is) (ps.fits fs 0 (λ j. ap (slice_get fs) (none_plus j)))
  level_formed v (union tags m tag w a b c d t o h small x at p y e) =
      let f = ih tag.1 (past_blanks c) w d p in
      record {
        form = form.union m (length (past_blanks c)) f.form;
        spelled = (a, b, c, d, o, h, x, refl, f.spelled, y);
        within = both_true (nat_lt m (2 ^ 63)) (is_within f.form n) (narrow m small) f.within;
        fits = λ k. subst (λ (z : Ty-F Ty). unless_own (is_union m z) k (misfit f.form (content_in_union m z) (length (past_blanks c))) ≡ None) (sym (ap out-Ty t ∙ out_uni tags)) (own_content f k);
      }
    where
      the_type : tag_type tags m ≡ Some tag.1
      the_type = rw (lt-ltb m (2 ^ 32) small, at) refl

      own_content : (f : Formed n tag.1 (past_blanks c) d) (k : ℕ) → unless_own (is_some (tag_type tags m)) k (misfit f.form (tag_type tags m) (length (past_blanks c))) ≡ None
      own_content f k = subst (λ (q : Option Ty). unless_own (is_some q) k (misfit f.form q (length (past_blanks c))) ≡ None) (sym the_type) (f.fits (length (past_blanks c)))

part_formed : (n : ℕ) → Forms n (PartAt n)
part_formed zero ty s v r h = absurd h
part_formed (suc n) ty s v r h = level_formed n (PartAt n) (part_formed n) ty s r v h

pub of_type : (bytes : List ℕ) (ty : Ty) (v : Val) → reads_value bytes ty v → IsOfType bytes ty
of_type bytes ty v h = go (part_formed 64 ty (past_blanks bytes) v h.rest h.spelled)
  where
    go : Formed 64 ty (past_blanks bytes) h.rest → IsOfType bytes ty
    go f = record { spelled = (f.form, record { rest = h.rest; spelled = f.spelled; ended = h.ended }); within = λ g k. (seen g k).0; fits = λ g k. (seen g k).1 }
      where
        told : look 64 (Some ty) (past_blanks bytes) ≡ Some (None, h.rest)
        told = rw (look_form f.form 64 (Some ty) (past_blanks bytes) h.rest f.spelled, f.within, f.fits (length (past_blanks bytes))) refl

        seen : (g : Form) → SpellsForm bytes g → (is_within g 64 ≡ true) × (misfit g (Some ty) (length (past_blanks bytes)) ≡ None)
        seen g k =
            let p = some_looked (is_within g 64) (misfit g (Some ty) (length (past_blanks bytes)), k.rest) (None, h.rest) (sym (look_form g 64 (Some ty) (past_blanks bytes) k.rest k.spelled) ∙ told) in
            (p.0, ap (λ (x : Look). x.0) p.1)
