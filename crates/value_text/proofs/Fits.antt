-- A form within the limits that has no misfit spells a value of the type.
use Rattle.std.proofs.Common.{◌≡◌, ℕ, zero, suc, ◌+◌, ◌-◌, ◌*◌, ◌^◌, ◌<◌, ◌≤◌, ℤ, pos, Bool, true, false, cond, ◌&&◌, eqb, ltb, leb, List, [], ◌∷◌, ◌++◌, length, Option, Some, None, refl, sym, ap, subst, ◌∙◌, arith, option_map, slice_get}
use Rattle.std.specs.Prelude.{codes, nat_le, nat_lt}
use Rattle.std.specs.Option.{is_some}
use Rattle.std.proofs.lemmas.Bool.{ltb-true, leb-true, le-leb, eqb-true, both_ways}
use Rattle.flow_value.specs.Bounds.{bounded, is_few, is_in_range, is_within as within_bounds}
use Rattle.flow_value.specs.Scalar.{fits_64}
use Rattle.flow_value.specs.declared.cause.Cause.TheVariants as cause
use Rattle.flow_value.specs.declared.value.Val.{Val}
use Rattle.flow_value.specs.declared.value.Val.TheVariants as val
use Rattle.flow_value.specs.declared.ty.Ty.{Ty}
use Rattle.flow_value.specs.declared.ty.Ty.TheVariants as type
use Rattle.flow_value.specs.declared.ty.Ty.TheOpen.{Ty-F}
use Rattle.flow_value.specs.declared.ty.Ty.TheViews.{out-Ty}
use Rattle.value_text.specs.Tokens.{past_blanks, or_else}
use Rattle.value_text.specs.Reading.{has_room, no_gap}
use Rattle.value_text.specs.Grammar.{Sign, Spelling, Values, FieldValues, CharacterItem, Alternative, error, error_because, integer, yes, no, character, nil, array, text, stream, fields, union, PartAt}
use Rattle.value_text.specs.Forms.{Form, Parts, none, part, Spells, SpellsParts, Items}
use Rattle.value_text.specs.Forms as form
use Rattle.value_text.specs.Faults.{count, has_level, is_within, are_within, is_int, is_bool, is_char, is_null, is_array, is_text, is_stream, is_record, is_union, element_in, item_in_stream, fields_in_record, content_in_union, tag_type, type_at, unless_own, misfit, part_misfit}
use Rattle.value_text.proofs.Levels.{is_int as int_type, is_bool as bool_type, is_char as char_type, is_null as null_type, is_arr, is_stream as stream_type, is_rec, is_uni, out_char}

and_two : (a b : Bool) → (a && b) ≡ true → (a ≡ true) × (b ≡ true)
and_two true b e = (refl, e)
and_two false b e = absurd cc

or_none : (a b : Option ℕ) → or_else a b ≡ None → (a ≡ None) × (b ≡ None)
or_none None b e = (refl, e)
or_none (Some x) b e = absurd cc

own_none : (own : Bool) (k : ℕ) (inside : Option ℕ) → unless_own own k inside ≡ None → (own ≡ true) × (inside ≡ None)
own_none true k inside e = (refl, e)
own_none false k inside e = absurd cc

-- ---- types of a form

as_int : (ty : Ty) (x : Ty-F Ty) → out-Ty ty ≡ x → is_int x ≡ true → ty ≡ type.Int
as_int ty Ty-F.Int o e = int_type ty o
as_int ty _ o e = absurd cc

as_bool : (ty : Ty) (x : Ty-F Ty) → out-Ty ty ≡ x → is_bool x ≡ true → ty ≡ type.Bool
as_bool ty Ty-F.Bool o e = bool_type ty o
as_bool ty _ o e = absurd cc

as_char : (ty : Ty) (x : Ty-F Ty) → out-Ty ty ≡ x → is_char x ≡ true → ty ≡ type.Char
as_char ty Ty-F.Char o e = char_type ty o
as_char ty _ o e = absurd cc

as_null : (ty : Ty) (x : Ty-F Ty) → out-Ty ty ≡ x → is_null x ≡ true → ty ≡ type.Null
as_null ty Ty-F.Null o e = null_type ty o
as_null ty _ o e = absurd cc

as_text : (ty : Ty) (x : Ty-F Ty) → out-Ty ty ≡ x → is_text x ≡ true → ty ≡ type.Arr type.Char
as_text ty (Ty-F.Arr u) o e = is_arr ty u o ∙ ap (λ (v : Ty). type.Arr v) (as_char u (out-Ty u) refl e)
as_text ty _ o e = absurd cc

as_array : (ty : Ty) (x : Ty-F Ty) → out-Ty ty ≡ x → is_array x ≡ true → (u : Ty) × (ty ≡ type.Arr u) × (element_in x ≡ Some u)
as_array ty (Ty-F.Arr u) o e = (u, is_arr ty u o, refl)
as_array ty _ o e = absurd cc

as_stream : (ty : Ty) (x : Ty-F Ty) → out-Ty ty ≡ x → is_stream x ≡ true → (u : Ty) × (ty ≡ type.Stream u) × (item_in_stream x ≡ Some u)
as_stream ty (Ty-F.Stream u) o e = (u, stream_type ty u o, refl)
as_stream ty _ o e = absurd cc

as_record : (n : ℕ) (ty : Ty) (x : Ty-F Ty) → out-Ty ty ≡ x → is_record n x ≡ true → (fs : List (List ℕ × Ty)) × (ty ≡ type.Rec fs) × (fields_in_record x ≡ fs) × (length fs ≡ n)
as_record n ty (Ty-F.Rec fs) o e = (fs, is_rec ty fs o, refl, eqb-true (length fs) n e)
as_record n ty _ o e = absurd cc

-- a tag of 32 bits that the union has
record Tagged (n : ℕ) (tags : List (List ℕ × Ty)) : Type 0 where
  tag : List ℕ × Ty
  small : n < 2 ^ 32
  at : slice_get tags n ≡ Some tag
  is : tag_type tags n ≡ Some tag.1

tagged : (n : ℕ) (tags : List (List ℕ × Ty)) → is_some (tag_type tags n) ≡ true → Tagged n tags
tagged n tags h = by_size (ltb n (2 ^ 32)) refl h
  where
    by_tag : (o : Option (List ℕ × Ty)) → slice_get tags n ≡ o → ltb n (2 ^ 32) ≡ true → is_some (option_map (λ (f : List ℕ × Ty). f.1) o) ≡ true → Tagged n tags
    by_tag None e l h = absurd cc
    by_tag (Some f) e l h = record { tag = f; small = ltb-true n (2 ^ 32) l; at = e; is = rw (l, e) refl }

    by_size : (b : Bool) → ltb n (2 ^ 32) ≡ b → is_some (cond b (option_map (λ (f : List ℕ × Ty). f.1) (slice_get tags n)) None) ≡ true → Tagged n tags
    by_size false l h = absurd cc
    by_size true l h = by_tag (slice_get tags n) refl l h

as_union : (n : ℕ) (ty : Ty) (x : Ty-F Ty) → out-Ty ty ≡ x → is_union n x ≡ true → (tags : List (List ℕ × Ty)) × (ty ≡ type.Uni tags) × (content_in_union n x ≡ tag_type tags n) × Tagged n tags
as_union n ty (Ty-F.Uni tags) o e = (tags, is_uni ty tags o, refl, tagged n tags e)
as_union n ty _ o e = absurd cc

-- ---- texts

chars_of : (cs : List ℕ) (s r : List ℕ) → Items cs s r → (vs : List Val) × Values no_gap CharacterItem 34 s vs r × (length vs ≡ length cs)
chars_of [] s r h = ([], h, refl)
chars_of (c ∷ cs) s r (t, i, h) = let k = chars_of cs t r h in (val.Char c ∷ k.0, (t, (c, refl, i), k.1), ap suc k.2)

room_of : (n : ℕ) (cs : List ℕ) (vs : List Val) → length vs ≡ length cs → has_level n cs ≡ true → has_room n vs ≡ true
room_of n cs [] e h = refl
room_of n [] (v ∷ vs) e h = absurd cc
room_of n (c ∷ cs) (v ∷ vs) e h = h

range_of : (n : ℕ) → is_few n ≡ true → within_bounds (pos 1) n ≡ true
range_of n h = let le : n ≤ 4194304 = leb-true n 4194304 h in rw (h, le-leb (1 + n) 9223372036854775808 (omega (arith, le))) refl

-- ---- forms

module _ (n : ℕ) (ty : Ty) (k : ℕ) (s r : List ℕ) where
  fits_text : (cs : List ℕ) → Spells (form.characters cs) s r → (is_few (length cs) && has_level n cs) ≡ true → is_text (out-Ty ty) ≡ true → (v : Val) × Alternative n (PartAt n) ty s v r
  fits_text cs h w o =
      let c = chars_of cs h.0 r h.2 in
      let p = and_two (is_few (length cs)) (has_level n cs) w in
      (val.Arr (bounded (pos 1) c.0), text c.0 h.0 (as_text ty (out-Ty ty) refl o) h.1 c.1 (subst (λ (x : ℕ). within_bounds (pos 1) x ≡ true) (sym c.2) (range_of (length cs) p.0)) (room_of n cs c.0 c.2 p.1) refl)

plus_none : (i : ℕ) → i + 0 ≡ i
plus_none i = omega arith

plus_next : (i j : ℕ) → i + suc j ≡ i + 1 + j
plus_next i j = omega arith

one_on : (n : ℕ) → suc n ≡ n + 1
one_on n = omega arith

no_one : (n : ℕ) → 0 ≡ n + 1 → ⊥
no_one n e = omega (arith, e)

one_less : (m n : ℕ) → suc m ≡ n + 1 → m ≡ n
one_less m n e = omega (arith, e)

abbrev Fits : Form → Type 0
Fits f = (n : ℕ) (ty : Ty) (k : ℕ) (s r : List ℕ) → Spells f s r → is_within f n ≡ true → misfit f (Some ty) k ≡ None → (v : Val) × PartAt n ty s v r

abbrev EachFits : Parts → Type 0
EachFits ps = (n : ℕ) (ty : Ty) (close i : ℕ) (s r : List ℕ) → SpellsParts ps close s r → are_within ps n ≡ true → part_misfit ps (Some ty) [] i ≡ None → (vs : List Val) × Values past_blanks (PartAt n ty) close s vs r × (length vs ≡ count ps)

abbrev FieldsFit : Parts → Type 0
FieldsFit ps = (n : ℕ) (fs gs : List (List ℕ × Ty)) (i : ℕ) (s r : List ℕ) → ((j : ℕ) → slice_get fs (i + j) ≡ slice_get gs j) → length gs ≡ count ps → SpellsParts ps 62 (past_blanks s) r → are_within ps n ≡ true → part_misfit ps None fs i ≡ None → (vs : List Val) × (b : List ℕ) × FieldValues (PartAt n) gs s vs b × Sign 62 (past_blanks b) r

fits_array : (lo : ℤ) (ps : Parts) → EachFits ps → Fits (form.array lo ps)
fits_array lo ps each zero ty k s r h w m = absurd cc
fits_array lo ps each (suc n) ty k s r (a, b, c, o, i, x, p) w m =
    let own = own_none (is_array (out-Ty ty)) k (part_misfit ps (element_in (out-Ty ty)) [] 0) m in
    let t = as_array ty (out-Ty ty) refl own.0 in
    let l = and_two (fits_64 lo) (are_within ps n && within_bounds lo (count ps)) w in
    let q = and_two (are_within ps n) (within_bounds lo (count ps)) l.1 in
    let vs = each n t.0 93 0 (past_blanks c) r p q.0 (ap (λ (e : Option Ty). part_misfit ps e [] 0) (sym t.2) ∙ own.1) in
    (val.Arr (bounded lo vs.0), array t.0 lo vs.0 a b c t.1 o i l.0 x vs.1 (subst (λ (y : ℕ). within_bounds lo y ≡ true) (sym vs.2) q.1) refl)

fits_stream : (ps : Parts) → EachFits ps → Fits (form.stream ps)
fits_stream ps each zero ty k s r h w m = absurd cc
fits_stream ps each (suc n) ty k s r (a, o, p) w m =
    let own = own_none (is_stream (out-Ty ty)) k (part_misfit ps (item_in_stream (out-Ty ty)) [] 0) m in
    let t = as_stream ty (out-Ty ty) refl own.0 in
    let q = and_two (are_within ps n) (is_few (count ps)) w in
    let vs = each n t.0 125 0 (past_blanks a) r p q.0 (ap (λ (e : Option Ty). part_misfit ps e [] 0) (sym t.2) ∙ own.1) in
    (val.Stream vs.0, stream t.0 vs.0 a t.1 o vs.1 (leb-true (length vs.0) 4194304 (subst (λ (y : ℕ). is_few y ≡ true) (sym vs.2) q.1)) refl)

fits_fields : (ps : Parts) → FieldsFit ps → Fits (form.fields ps)
fits_fields ps each zero ty k s r h w m = absurd cc
fits_fields ps each (suc n) ty k s r (a, o, p) w m =
    let own = own_none (is_record (count ps) (out-Ty ty)) k (part_misfit ps None (fields_in_record (out-Ty ty)) 0) m in
    let t = as_record (count ps) ty (out-Ty ty) refl own.0 in
    let q = and_two (are_within ps n) (is_few (count ps)) w in
    let vs = each n t.0 t.0 0 a r (λ j. ap (slice_get t.0) (none_plus j)) t.3 p q.0 (ap (λ (fs : List (List ℕ × Ty)). part_misfit ps None fs 0) (sym t.2) ∙ own.1) in
    (val.Rec vs.0, fields t.0 vs.0 a vs.1 t.1 o vs.2 (subst (λ (y : ℕ). is_few y ≡ true) (sym t.3) q.1) vs.3 refl)
  where
    none_plus : (j : ℕ) → 0 + j ≡ j
    none_plus j = omega arith

fits_union : (t j : ℕ) (f : Form) → Fits f → Fits (form.union t j f)
fits_union t j f ih zero ty k s r h w m = absurd cc
fits_union t j f ih (suc n) ty k s r (a, b, c, d, o, i, x, e, p, y) w m =
    let own = own_none (is_union t (out-Ty ty)) k (misfit f (content_in_union t (out-Ty ty)) j) m in
    let u = as_union t ty (out-Ty ty) refl own.0 in
    let q = and_two (nat_lt t (2 ^ 63)) (is_within f n) w in
    let v = ih n u.3.tag.1 j (past_blanks c) d p q.1 (ap (λ (z : Option Ty). misfit f z j) (sym (u.2 ∙ u.3.is)) ∙ own.1) in
    (val.Uni t v.0, union u.0 t u.3.tag v.0 a b c d u.1 o i u.3.small x u.3.at v.1 y refl)

mutual
  pub fits : (f : Form) → Fits f
  fits form.error zero ty k s r h w m = absurd cc
  fits form.error (suc n) ty k s r h w m = (val.Err cause.Explicit, error h.0 h.1 refl)
  fits (form.error_because c) zero ty k s r h w m = absurd cc
  fits (form.error_because c) (suc n) ty k s r h w m = (val.Err c, error_because c h.0 h.1 h.2 h.3 h.4 refl)
  fits (form.integer z) zero ty k s r h w m = absurd cc
  fits (form.integer z) (suc n) ty k s r h w m = (val.Int z, integer z (as_int ty (out-Ty ty) refl (own_none (is_int (out-Ty ty)) k None m).0) h w refl)
  fits (form.boolean b) zero ty k s r h w m = absurd cc
  fits (form.boolean true) (suc n) ty k s r h w m = (val.Bool true, yes (as_bool ty (out-Ty ty) refl (own_none (is_bool (out-Ty ty)) k None m).0) h refl)
  fits (form.boolean false) (suc n) ty k s r h w m = (val.Bool false, no (as_bool ty (out-Ty ty) refl (own_none (is_bool (out-Ty ty)) k None m).0) h refl)
  fits (form.character c) zero ty k s r h w m = absurd cc
  fits (form.character c) (suc n) ty k s r h w m = (val.Char c, character c h.0 h.1 (as_char ty (out-Ty ty) refl (own_none (is_char (out-Ty ty)) k None m).0) h.2 h.3 h.4 refl)
  fits (form.characters cs) zero ty k s r h w m = absurd cc
  fits (form.characters cs) (suc n) ty k s r h w m = fits_text n ty k s r cs h w (own_none (is_text (out-Ty ty)) k None m).0
  fits form.nil zero ty k s r h w m = absurd cc
  fits form.nil (suc n) ty k s r h w m = (val.Null, nil (as_null ty (out-Ty ty) refl (own_none (is_null (out-Ty ty)) k None m).0) h refl)
  fits (form.array lo ps) n ty k s r h w m = fits_array lo ps (each_fits ps) n ty k s r h w m
  fits (form.stream ps) n ty k s r h w m = fits_stream ps (each_fits ps) n ty k s r h w m
  fits (form.fields ps) n ty k s r h w m = fits_fields ps (fields_fit ps) n ty k s r h w m
  fits (form.union t j f) n ty k s r h w m = fits_union t j f (fits f) n ty k s r h w m

  each_fits : (ps : Parts) → EachFits ps
  each_fits none n ty close i s r h w m = ([], h, refl)
  each_fits (part k f ps) n ty close i s r (t, e, p, q) w m =
      let l = and_two (is_within f n) (are_within ps n) w in
      let o = or_none (misfit f (Some ty) k) (part_misfit ps (Some ty) [] (i + 1)) m in
      let v = fits f n ty k s t p l.0 o.0 in
      let vs = each_fits ps n ty close (i + 1) (past_blanks t) r q l.1 o.1 in
      (v.0 ∷ vs.0, (t, v.1, vs.1), ap suc vs.2 ∙ one_on (count ps))

  fields_fit : (ps : Parts) → FieldsFit ps
  fields_fit none n fs [] i s r g e h w m = ([], s, refl, h)
  fields_fit none n fs (x ∷ gs) i s r g e h w m = absurd cc
  fields_fit (part k f ps) n fs [] i s r g e h w m = absurd (no_one (count ps) e)
  fields_fit (part k f ps) n fs (x ∷ gs) i s r g e (t, c, p, q) w m =
      let l = and_two (is_within f n) (are_within ps n) w in
      let at : slice_get fs i ≡ Some x = ap (slice_get fs) (sym (plus_none i)) ∙ g 0 in
      let o = or_none (misfit f (type_at None fs i) k) (part_misfit ps None fs (i + 1)) m in
      let v = fits f n x.1 k (past_blanks s) t p l.0 (ap (λ (y : Option (List ℕ × Ty)). misfit f (option_map (λ (z : List ℕ × Ty). z.1) y) k) (sym at) ∙ o.0) in
      let vs = fields_fit ps n fs gs (i + 1) t r (λ j. ap (slice_get fs) (sym (plus_next i j)) ∙ g (suc j)) (one_less (length gs) (count ps) e) q l.1 o.1 in
      (v.0 ∷ vs.0, vs.1, (t, v.1, vs.2), vs.3)
