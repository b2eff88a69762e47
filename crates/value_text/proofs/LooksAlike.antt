-- A text is looked at beside a number as beside a type for which the number stands.
use Rattle.std.proofs.Common.{◌≡◌, ℕ, zero, suc, ◌+◌, ◌^◌, Bool, true, false, ◌==◌, nat_lt, cond, List, [], ◌∷◌, length, Option, Some, None, slice_get, refl, sym, ap, subst, ◌∙◌}
use Rattle.std.specs.Option.{is_some, option_map}
use Rattle.flow_value.specs.declared.ty.Ty.{Ty}
use Rattle.flow_value.specs.declared.ty.Ty.TheOpen.{Ty-F}
use Rattle.flow_value.specs.declared.ty.Ty.TheViews.{out-Ty}
use Rattle.value_text.specs.Tokens.{◌>>=◌, or_else, past_blanks, sign_in}
use Rattle.value_text.specs.Reading.{with_rest, int_in, bool_in, null_in, char_in, bound_in, tag_in}
use Rattle.value_text.specs.Faults.{asks, is_int, is_bool, is_char, is_null, is_array, is_text, is_stream, is_record, is_union, tag_type, element_in, element_of, item_in_stream, item_of, fields_in_record, fields_of, content_in_union, content_of, type_at, unless_own}
use Rattle.value_text.specs.Surveying.{Look, LookParts, Looker, of_value, error_look, scalar_look, items_look, text_look, text_found, with_look, parts_look, array_look, array_found, stream_look, record_look, narrow_tag, content_look, union_look, by_front, level_look, look}
use Rattle.value_text.specs.Numbered.{Numbered, AreLike, HasForm, IsLike, StandsFor}
use Rattle.value_text.specs.SurveyingBy.{form_if, asks_by, is_integer, is_boolean, is_character, is_nil_type, is_array_type, is_text_type, is_stream_type, fields_by, fields_if, is_record_type, asks_record, tag_by, content_by_form, content_if, asks_union, element_by, element_if, item_by, item_if, type_by, scalar_look_by, text_look_by, LookerBy, parts_look_by, array_look_by, stream_look_by, record_look_by, content_look_by, union_look_by, front_by, level_look_by, look_by}
use Rattle.value_text.specs.declared.type_form.TypeForm.{TypeForm}
use Rattle.value_text.specs.declared.type_form.TypeForm.TheVariants as form
use Rattle.value_text.proofs.Alike.{lengths, LikeIf, got}

-- ---- what a form is asked for

-- the form of a number whose type is made so
abbrev formed : ℕ → Ty-F Ty → TypeForm
formed m Ty-F.Int = form.Integer
formed m Ty-F.Bool = form.Boolean
formed m Ty-F.Char = form.Character
formed m Ty-F.Null = form.Null
formed m (Ty-F.Arr e) = form.Array m
formed m (Ty-F.Stream e) = form.Stream m
formed m (Ty-F.Rec fs) = form.Record
formed m (Ty-F.Uni fs) = form.Union

formed_is : (ts : Numbered) (like : ℕ → Ty → Type 0) (n : ℕ) (o : Ty-F Ty) → HasForm ts like n o → (m : ℕ) × (ts.form n ≡ formed m o)
formed_is ts like n Ty-F.Int h = (0, h)
formed_is ts like n Ty-F.Bool h = (0, h)
formed_is ts like n Ty-F.Char h = (0, h)
formed_is ts like n Ty-F.Null h = (0, h)
formed_is ts like n (Ty-F.Arr e) h = (h.0, h.1)
formed_is ts like n (Ty-F.Stream e) h = (h.0, h.1)
formed_is ts like n (Ty-F.Rec fs) h = (0, h.0)
formed_is ts like n (Ty-F.Uni fs) h = (0, h.0)

integers : (m : ℕ) (o : Ty-F Ty) → is_integer (formed m o) ≡ is_int o
integers m Ty-F.Int = refl
integers m Ty-F.Bool = refl
integers m Ty-F.Char = refl
integers m Ty-F.Null = refl
integers m (Ty-F.Arr e) = refl
integers m (Ty-F.Stream e) = refl
integers m (Ty-F.Rec fs) = refl
integers m (Ty-F.Uni fs) = refl

booleans : (m : ℕ) (o : Ty-F Ty) → is_boolean (formed m o) ≡ is_bool o
booleans m Ty-F.Int = refl
booleans m Ty-F.Bool = refl
booleans m Ty-F.Char = refl
booleans m Ty-F.Null = refl
booleans m (Ty-F.Arr e) = refl
booleans m (Ty-F.Stream e) = refl
booleans m (Ty-F.Rec fs) = refl
booleans m (Ty-F.Uni fs) = refl

characters : (m : ℕ) (o : Ty-F Ty) → is_character (formed m o) ≡ is_char o
characters m Ty-F.Int = refl
characters m Ty-F.Bool = refl
characters m Ty-F.Char = refl
characters m Ty-F.Null = refl
characters m (Ty-F.Arr e) = refl
characters m (Ty-F.Stream e) = refl
characters m (Ty-F.Rec fs) = refl
characters m (Ty-F.Uni fs) = refl

nils : (m : ℕ) (o : Ty-F Ty) → is_nil_type (formed m o) ≡ is_null o
nils m Ty-F.Int = refl
nils m Ty-F.Bool = refl
nils m Ty-F.Char = refl
nils m Ty-F.Null = refl
nils m (Ty-F.Arr e) = refl
nils m (Ty-F.Stream e) = refl
nils m (Ty-F.Rec fs) = refl
nils m (Ty-F.Uni fs) = refl

arrays : (m : ℕ) (o : Ty-F Ty) → is_array_type (formed m o) ≡ is_array o
arrays m Ty-F.Int = refl
arrays m Ty-F.Bool = refl
arrays m Ty-F.Char = refl
arrays m Ty-F.Null = refl
arrays m (Ty-F.Arr e) = refl
arrays m (Ty-F.Stream e) = refl
arrays m (Ty-F.Rec fs) = refl
arrays m (Ty-F.Uni fs) = refl

streams : (m : ℕ) (o : Ty-F Ty) → is_stream_type (formed m o) ≡ is_stream o
streams m Ty-F.Int = refl
streams m Ty-F.Bool = refl
streams m Ty-F.Char = refl
streams m Ty-F.Null = refl
streams m (Ty-F.Arr e) = refl
streams m (Ty-F.Stream e) = refl
streams m (Ty-F.Rec fs) = refl
streams m (Ty-F.Uni fs) = refl

-- ---- at a number and a type that it is like, if one is asked for

module _ (ts : Numbered) (like lower lowest : ℕ → Ty → Type 0) (forms : (n : ℕ) (t : Ty) → like n t → HasForm ts lower n (out-Ty t)) (deeper : (n : ℕ) (t : Ty) → lower n t → HasForm ts lowest n (out-Ty t)) where
  asked : (own : TypeForm → Bool) (its : Ty-F Ty → Bool) → ((m : ℕ) (o : Ty-F Ty) → own (formed m o) ≡ its o)
      → (n : Option ℕ) (t : Option Ty) → LikeIf like n t → asks_by own (form_if ts n) ≡ asks its t
  asked own its agree None None h = refl
  asked own its agree None (Some t) h = absurd h
  asked own its agree (Some n) None h = absurd h
  asked own its agree (Some n) (Some t) h =
      let f = formed_is ts lower n (out-Ty t) (forms n t h) in
      ap own f.1 ∙ agree f.0 (out-Ty t)

  text_form : (n : ℕ) (o : Ty-F Ty) → HasForm ts lower n o → is_text_type ts (ts.form n) ≡ is_text o
  text_form n Ty-F.Int h = ap (is_text_type ts) h
  text_form n Ty-F.Bool h = ap (is_text_type ts) h
  text_form n Ty-F.Char h = ap (is_text_type ts) h
  text_form n Ty-F.Null h = ap (is_text_type ts) h
  text_form n (Ty-F.Arr e) h =
      let f = formed_is ts lowest h.0 (out-Ty e) (deeper h.0 e h.2) in
      let is : is_text_type ts (ts.form n) ≡ is_character (ts.form h.0) = ap (is_text_type ts) h.1 in
      is ∙ (ap is_character f.1 ∙ characters f.0 (out-Ty e))
  text_form n (Ty-F.Stream e) h = ap (is_text_type ts) h.1
  text_form n (Ty-F.Rec fs) h = ap (is_text_type ts) h.0
  text_form n (Ty-F.Uni fs) h = ap (is_text_type ts) h.0

  asked_text : (n : Option ℕ) (t : Option Ty) → LikeIf like n t → asks_by (is_text_type ts) (form_if ts n) ≡ asks is_text t
  asked_text None None h = refl
  asked_text None (Some t) h = absurd h
  asked_text (Some n) None h = absurd h
  asked_text (Some n) (Some t) h = text_form n (out-Ty t) (forms n t h)

  -- ---- parts

  element_form : (n : ℕ) (o : Ty-F Ty) → HasForm ts lower n o → LikeIf lower (element_by (ts.form n)) (element_in o)
  element_form n Ty-F.Int h = subst (λ f. LikeIf lower (element_by f) None) (sym h) tt
  element_form n Ty-F.Bool h = subst (λ f. LikeIf lower (element_by f) None) (sym h) tt
  element_form n Ty-F.Char h = subst (λ f. LikeIf lower (element_by f) None) (sym h) tt
  element_form n Ty-F.Null h = subst (λ f. LikeIf lower (element_by f) None) (sym h) tt
  element_form n (Ty-F.Arr e) h = subst (λ f. LikeIf lower (element_by f) (Some e)) (sym h.1) h.2
  element_form n (Ty-F.Stream e) h = subst (λ f. LikeIf lower (element_by f) None) (sym h.1) tt
  element_form n (Ty-F.Rec fs) h = subst (λ f. LikeIf lower (element_by f) None) (sym h.0) tt
  element_form n (Ty-F.Uni fs) h = subst (λ f. LikeIf lower (element_by f) None) (sym h.0) tt

  element_alike : (n : Option ℕ) (t : Option Ty) → LikeIf like n t → LikeIf lower (element_if (form_if ts n)) (element_of t)
  element_alike None None h = tt
  element_alike None (Some t) h = absurd h
  element_alike (Some n) None h = absurd h
  element_alike (Some n) (Some t) h = element_form n (out-Ty t) (forms n t h)

  item_form : (n : ℕ) (o : Ty-F Ty) → HasForm ts lower n o → LikeIf lower (item_by (ts.form n)) (item_in_stream o)
  item_form n Ty-F.Int h = subst (λ f. LikeIf lower (item_by f) None) (sym h) tt
  item_form n Ty-F.Bool h = subst (λ f. LikeIf lower (item_by f) None) (sym h) tt
  item_form n Ty-F.Char h = subst (λ f. LikeIf lower (item_by f) None) (sym h) tt
  item_form n Ty-F.Null h = subst (λ f. LikeIf lower (item_by f) None) (sym h) tt
  item_form n (Ty-F.Arr e) h = subst (λ f. LikeIf lower (item_by f) None) (sym h.1) tt
  item_form n (Ty-F.Stream e) h = subst (λ f. LikeIf lower (item_by f) (Some e)) (sym h.1) h.2
  item_form n (Ty-F.Rec fs) h = subst (λ f. LikeIf lower (item_by f) None) (sym h.0) tt
  item_form n (Ty-F.Uni fs) h = subst (λ f. LikeIf lower (item_by f) None) (sym h.0) tt

  item_alike : (n : Option ℕ) (t : Option Ty) → LikeIf like n t → LikeIf lower (item_if (form_if ts n)) (item_of t)
  item_alike None None h = tt
  item_alike None (Some t) h = absurd h
  item_alike (Some n) None h = absurd h
  item_alike (Some n) (Some t) h = item_form n (out-Ty t) (forms n t h)

  fields_form : (n : ℕ) (o : Ty-F Ty) → HasForm ts lower n o → AreLike lower (fields_by ts n (ts.form n)) (fields_in_record o)
  fields_form n Ty-F.Int h = subst (λ f. AreLike lower (fields_by ts n f) []) (sym h) tt
  fields_form n Ty-F.Bool h = subst (λ f. AreLike lower (fields_by ts n f) []) (sym h) tt
  fields_form n Ty-F.Char h = subst (λ f. AreLike lower (fields_by ts n f) []) (sym h) tt
  fields_form n Ty-F.Null h = subst (λ f. AreLike lower (fields_by ts n f) []) (sym h) tt
  fields_form n (Ty-F.Arr e) h = subst (λ f. AreLike lower (fields_by ts n f) []) (sym h.1) tt
  fields_form n (Ty-F.Stream e) h = subst (λ f. AreLike lower (fields_by ts n f) []) (sym h.1) tt
  fields_form n (Ty-F.Rec fs) h = subst (λ f. AreLike lower (fields_by ts n f) fs) (sym h.0) h.1
  fields_form n (Ty-F.Uni fs) h = subst (λ f. AreLike lower (fields_by ts n f) []) (sym h.0) tt

  fields_alike : (n : Option ℕ) (t : Option Ty) → LikeIf like n t → AreLike lower (fields_if ts n) (fields_of t)
  fields_alike None None h = tt
  fields_alike None (Some t) h = absurd h
  fields_alike (Some n) None h = absurd h
  fields_alike (Some n) (Some t) h = fields_form n (out-Ty t) (forms n t h)

  record_form : (n count : ℕ) (o : Ty-F Ty) → HasForm ts lower n o → is_record_type ts n count (ts.form n) ≡ is_record count o
  record_form n count Ty-F.Int h = ap (is_record_type ts n count) h
  record_form n count Ty-F.Bool h = ap (is_record_type ts n count) h
  record_form n count Ty-F.Char h = ap (is_record_type ts n count) h
  record_form n count Ty-F.Null h = ap (is_record_type ts n count) h
  record_form n count (Ty-F.Arr e) h = ap (is_record_type ts n count) h.1
  record_form n count (Ty-F.Stream e) h = ap (is_record_type ts n count) h.1
  record_form n count (Ty-F.Rec fs) h = ap (is_record_type ts n count) h.0 ∙ ap (λ k. k == count) (lengths lower (ts.members n) fs h.1)
  record_form n count (Ty-F.Uni fs) h = ap (is_record_type ts n count) h.0

  asked_record : (count : ℕ) (n : Option ℕ) (t : Option Ty) → LikeIf like n t → asks_record ts count n ≡ asks (is_record count) t
  asked_record count None None h = refl
  asked_record count None (Some t) h = absurd h
  asked_record count (Some n) None h = absurd h
  asked_record count (Some n) (Some t) h = record_form n count (out-Ty t) (forms n t h)

  tag_alike : (b : Bool) (ns : List ℕ) (fs : List (List ℕ × Ty)) (k : ℕ) → AreLike lower ns fs → LikeIf lower (cond b (slice_get ns k) None) (cond b (option_map (λ f. f.1) (slice_get fs k)) None)
  tag_alike true ns fs k h = got lower ns fs k h
  tag_alike false ns fs k h = tt

  content_form : (n k : ℕ) (o : Ty-F Ty) → HasForm ts lower n o → LikeIf lower (content_by_form ts n k (ts.form n)) (content_in_union k o)
  content_form n k Ty-F.Int h = subst (λ f. LikeIf lower (content_by_form ts n k f) None) (sym h) tt
  content_form n k Ty-F.Bool h = subst (λ f. LikeIf lower (content_by_form ts n k f) None) (sym h) tt
  content_form n k Ty-F.Char h = subst (λ f. LikeIf lower (content_by_form ts n k f) None) (sym h) tt
  content_form n k Ty-F.Null h = subst (λ f. LikeIf lower (content_by_form ts n k f) None) (sym h) tt
  content_form n k (Ty-F.Arr e) h = subst (λ f. LikeIf lower (content_by_form ts n k f) None) (sym h.1) tt
  content_form n k (Ty-F.Stream e) h = subst (λ f. LikeIf lower (content_by_form ts n k f) None) (sym h.1) tt
  content_form n k (Ty-F.Rec fs) h = subst (λ f. LikeIf lower (content_by_form ts n k f) None) (sym h.0) tt
  content_form n k (Ty-F.Uni fs) h =
      subst (λ f. LikeIf lower (content_by_form ts n k f) (tag_type fs k)) (sym h.0) (tag_alike (nat_lt k (2 ^ 32)) (ts.members n) fs k h.1)

  content_alike : (k : ℕ) (n : Option ℕ) (t : Option Ty) → LikeIf like n t → LikeIf lower (content_if ts k n) (content_of k t)
  content_alike k None None h = tt
  content_alike k None (Some t) h = absurd h
  content_alike k (Some n) None h = absurd h
  content_alike k (Some n) (Some t) h = content_form n k (out-Ty t) (forms n t h)

  both_there : (n : Option ℕ) (t : Option Ty) → LikeIf lower n t → is_some n ≡ is_some t
  both_there None None h = refl
  both_there None (Some t) h = absurd h
  both_there (Some n) None h = absurd h
  both_there (Some n) (Some t) h = refl

  union_form : (k : ℕ) (o : Ty-F Ty) → is_some (content_in_union k o) ≡ is_union k o
  union_form k Ty-F.Int = refl
  union_form k Ty-F.Bool = refl
  union_form k Ty-F.Char = refl
  union_form k Ty-F.Null = refl
  union_form k (Ty-F.Arr e) = refl
  union_form k (Ty-F.Stream e) = refl
  union_form k (Ty-F.Rec fs) = refl
  union_form k (Ty-F.Uni fs) = refl

  asked_union : (k : ℕ) (n : Option ℕ) (t : Option Ty) → LikeIf like n t → asks_union ts k n ≡ asks (is_union k) t
  asked_union k None None h = refl
  asked_union k None (Some t) h = absurd h
  asked_union k (Some n) None h = absurd h
  asked_union k (Some n) (Some t) h =
      both_there (content_by_form ts n k (ts.form n)) (content_in_union k (out-Ty t)) (content_form n k (out-Ty t) (forms n t h)) ∙ union_form k (out-Ty t)

  -- ---- looks

  type_alike : (each : Option ℕ) (one : Option Ty) (ns : List ℕ) (fs : List (List ℕ × Ty)) (i : ℕ) → LikeIf lower each one → AreLike lower ns fs → LikeIf lower (type_by each ns i) (type_at one fs i)
  type_alike None None ns fs i h a = got lower ns fs i a
  type_alike None (Some t) ns fs i h a = absurd h
  type_alike (Some n) None ns fs i h a = absurd h
  type_alike (Some n) (Some t) ns fs i h a = h

  module _ (p : LookerBy) (q : Looker) (same : (n : Option ℕ) (t : Option Ty) → LikeIf lower n t → p n ≡ q t) where
    parts_alike : (each : Option ℕ) (one : Option Ty) (ns : List ℕ) (fs : List (List ℕ × Ty)) (close most i : ℕ) (s : List ℕ) → LikeIf lower each one → AreLike lower ns fs
        → parts_look_by p each ns close most i s ≡ parts_look q one fs close most i s
    unfolding parts_look_by parts_look
    parts_alike each one ns fs close zero i s h a = refl
    parts_alike each one ns fs close (suc most) i s h a =
        let here : p (type_by each ns i) ≡ q (type_at one fs i) = same (type_by each ns i) (type_at one fs i) (type_alike each one ns fs i h a) in
        λ j. or_else (with_rest (0, None) (sign_in close s)) (here j s >>= λ r. with_look r.0 (parts_alike each one ns fs close most (i + 1) (past_blanks r.1) h a j))

    array_alike : (n : Option ℕ) (t : Option Ty) (s : List ℕ) → LikeIf like n t → array_look_by p (form_if ts n) s ≡ array_look q t s
    unfolding array_look_by array_look
    array_alike n t s h =
        λ j. bound_in s >>= λ b. parts_alike (element_if (form_if ts n)) (element_of t) [] [] 93 4194304 0 (past_blanks b.1) (element_alike n t h) tt j >>= array_found b.0 (asked is_array_type is_array arrays n t h j) (length s)

    stream_alike : (n : Option ℕ) (t : Option Ty) (s : List ℕ) → LikeIf like n t → stream_look_by p (form_if ts n) s ≡ stream_look q t s
    unfolding stream_look_by stream_look
    stream_alike n t s h =
        λ j. sign_in 123 s >>= λ a. parts_alike (item_if (form_if ts n)) (item_of t) [] [] 125 4194304 0 (past_blanks a) (item_alike n t h) tt j >>= λ r. Some (unless_own (asked is_stream_type is_stream streams n t h j) (length s) r.0.1, r.1)

    record_alike : (n : Option ℕ) (t : Option Ty) (s : List ℕ) → LikeIf like n t → record_look_by ts p n s ≡ record_look q t s
    unfolding record_look_by record_look
    record_alike n t s h =
        λ j. sign_in 60 s >>= λ a. parts_alike None None (fields_if ts n) (fields_of t) 62 4194304 0 (past_blanks a) tt (fields_alike n t h) j >>= λ r. Some (unless_own (asked_record r.0.0 n t h j) (length s) r.0.1, r.1)

    union_alike : (n : Option ℕ) (t : Option Ty) (s : List ℕ) → LikeIf like n t → union_look_by ts p n s ≡ union_look q t s
    unfolding union_look_by union_look
    union_alike n t s h =
        λ j. tag_in s >>= λ r. narrow_tag r.0 >>= λ k. same (content_if ts k n) (content_of k t) (content_alike k n t h) j (past_blanks r.1) >>= λ w. with_rest (unless_own (asked_union k n t h j) (length s) w.0) (sign_in 41 (past_blanks w.1))

    text_alike : (below : ℕ) (n : Option ℕ) (t : Option Ty) (s : List ℕ) → LikeIf like n t → text_look_by ts (form_if ts n) below s ≡ text_look t below s
    unfolding text_look_by text_look
    text_alike below n t s h = λ j. sign_in 34 s >>= λ a. items_look 4194304 a >>= text_found below (asked_text n t h j) (length s)

    scalar_alike : (n : Option ℕ) (t : Option Ty) (s : List ℕ) → LikeIf like n t → scalar_look_by (form_if ts n) s ≡ scalar_look t s
    unfolding scalar_look_by scalar_look
    scalar_alike n t s h =
        λ j. or_else (bool_in s >>= of_value (asked is_boolean is_bool booleans n t h j) (length s))
        (or_else (null_in s >>= of_value (asked is_nil_type is_null nils n t h j) (length s))
        (or_else (char_in s >>= of_value (asked is_character is_char characters n t h j) (length s))
        (int_in s >>= of_value (asked is_integer is_int integers n t h j) (length s))))

    front_alike : (below : ℕ) (n : Option ℕ) (t : Option Ty) (s : List ℕ) → LikeIf like n t → front_by ts below p n s ≡ by_front below q t s
    front_alike below n t [] h = refl
    front_alike below n t (c ∷ s) h =
        λ j. cond (c == 91) (array_alike n t (c ∷ s) h j)
        (cond (c == 123) (stream_alike n t (c ∷ s) h j)
        (cond (c == 60) (record_alike n t (c ∷ s) h j)
        (cond (c == 40) (union_alike n t (c ∷ s) h j)
        (cond (c == 34) (text_alike below n t (c ∷ s) h j)
        (scalar_alike n t (c ∷ s) h j)))))

pub look_alike : (ts : Numbered) (k : ℕ) (n : Option ℕ) (t : Option Ty) → LikeIf (IsLike ts (suc k)) n t → look_by ts k n ≡ look k t
look_alike ts zero n t h = λ j s. None
look_alike ts (suc k) n t h =
    λ j s. or_else (error_look s)
    (front_alike ts (IsLike ts (suc (suc k))) (IsLike ts (suc k)) (IsLike ts k) (λ m u l. l) (λ m u l. l) (look_by ts k) (look k) (look_alike ts k) k n t s h j)
