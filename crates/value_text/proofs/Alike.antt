-- A text is read and looked at by a number as at a type for which the number stands.
use Rattle.std.proofs.Common.{◌≡◌, ℕ, zero, suc, ◌+◌, Bool, true, false, ◌==◌, nat_lt, cond, List, [], ◌∷◌, length, Option, Some, None, slice_get, refl, sym, ap, ◌∙◌}
use Rattle.std.specs.Option.{is_some, option_map}
use Rattle.flow_value.specs.Bounds.{is_few}
use Rattle.flow_value.specs.declared.value.Val.{Val}
use Rattle.flow_value.specs.declared.value.Val.TheVariants as val
use Rattle.flow_value.specs.declared.ty.Ty.{Ty}
use Rattle.flow_value.specs.declared.ty.Ty.TheOpen.{Ty-F}
use Rattle.flow_value.specs.declared.ty.Ty.TheViews.{out-Ty}
use Rattle.value_text.specs.Tokens.{◌>>=◌, or_else, past_blanks, sign_in}
use Rattle.value_text.specs.Reading.{Reader, with_rest, with_part, fields_in, record_in, content_in, union_in, tag_in, small_tag, array_in, stream_in, text_at, typed_in, part_in, value_in, error_in, at_end, text_value}
use Rattle.value_text.specs.Numbered.{Numbered, AreLike, HasForm, IsLike, StandsFor}
use Rattle.value_text.specs.ReadingBy.{members_by, record_by, content_by, union_by, text_by, form_by, part_by, value_by, text_value_by}
use Rattle.value_text.specs.declared.type_form.TypeForm.{TypeForm}
use Rattle.value_text.specs.declared.type_form.TypeForm.TheVariants as form

-- ---- numbers like types

pub lengths : (like : ℕ → Ty → Type 0) (ns : List ℕ) (fs : List (List ℕ × Ty)) → AreLike like ns fs → length ns ≡ length fs
lengths like [] [] h = refl
lengths like [] (f ∷ fs) h = absurd h
lengths like (n ∷ ns) [] h = absurd h
lengths like (n ∷ ns) (f ∷ fs) h = ap suc (lengths like ns fs h.1)

-- neither, or a number like the type
abbrev pub LikeIf : (ℕ → Ty → Type 0) → Option ℕ → Option Ty → Type 0
LikeIf like None None = Unit {0}
LikeIf like None (Some t) = ⊥
LikeIf like (Some n) None = ⊥
LikeIf like (Some n) (Some t) = like n t

pub got : (like : ℕ → Ty → Type 0) (ns : List ℕ) (fs : List (List ℕ × Ty)) (i : ℕ) → AreLike like ns fs → LikeIf like (slice_get ns i) (option_map (λ f. f.1) (slice_get fs i))
got like [] [] i h = tt
got like [] (f ∷ fs) i h = absurd h
got like (n ∷ ns) [] i h = absurd h
got like (n ∷ ns) (f ∷ fs) zero h = h.0
got like (n ∷ ns) (f ∷ fs) (suc i) h = got like ns fs i h.1

-- ---- reading

-- readers by number and by type are the same for what is alike
abbrev AreSame : (ℕ → Ty → Type 0) → (ℕ → Reader) → (Ty → Reader) → Type 0
AreSame like p q = (n : ℕ) (t : Ty) → like n t → p n ≡ q t

bound_alike : {A B : Type 0} (x y : Option A) (f g : A → Option B) → x ≡ y → ((a : A) → f a ≡ g a) → (x >>= f) ≡ (y >>= g)
bound_alike x y f g e h = λ j. e j >>= λ a. h a j

members_alike : (like : ℕ → Ty → Type 0) (p : ℕ → Reader) (q : Ty → Reader) → AreSame like p q → (ns : List ℕ) (fs : List (List ℕ × Ty)) (s : List ℕ) → AreLike like ns fs → members_by p ns s ≡ fields_in q fs s
members_alike like p q same [] [] s h = refl
members_alike like p q same [] (f ∷ fs) s h = absurd h
members_alike like p q same (n ∷ ns) [] s h = absurd h
members_alike like p q same (n ∷ ns) (f ∷ fs) s h =
    bound_alike (p n (past_blanks s)) (q f.1 (past_blanks s)) (λ r. with_part r.0 (members_by p ns r.1)) (λ r. with_part r.0 (fields_in q fs r.1))
    (λ j. same n f.1 h.0 j (past_blanks s)) (λ r. ap (with_part r.0) (members_alike like p q same ns fs r.1 h.1))

record_alike : (like : ℕ → Ty → Type 0) (p : ℕ → Reader) (q : Ty → Reader) → AreSame like p q → (ns : List ℕ) (fs : List (List ℕ × Ty)) (s : List ℕ) → AreLike like ns fs → record_by p ns s ≡ record_in q fs s
unfolding record_by record_in
record_alike like p q same ns fs s h =
    λ j. cond (is_few (lengths like ns fs h j))
    (sign_in 60 s >>= (λ a. members_alike like p q same ns fs a h j >>= λ r. with_rest (val.Rec r.0) (sign_in 62 (past_blanks r.1)))) None

content_alike : (like : ℕ → Ty → Type 0) (p : ℕ → Reader) (q : Ty → Reader) → AreSame like p q → (n : ℕ) (ns : List ℕ) (fs : List (List ℕ × Ty)) (i : ℕ) (s : List ℕ) → AreLike like ns fs → content_by p n (slice_get ns i) s ≡ content_in q n (slice_get fs i) s
content_alike like p q same n [] [] i s h = refl
content_alike like p q same n [] (f ∷ fs) i s h = absurd h
content_alike like p q same n (m ∷ ns) [] i s h = absurd h
content_alike like p q same n (m ∷ ns) (f ∷ fs) zero s h =
    λ j. same m f.1 h.0 j (past_blanks s) >>= λ r. with_rest (val.Uni n r.0) (sign_in 41 (past_blanks r.1))
content_alike like p q same n (m ∷ ns) (f ∷ fs) (suc i) s h = content_alike like p q same n ns fs i s h.1

union_alike : (like : ℕ → Ty → Type 0) (p : ℕ → Reader) (q : Ty → Reader) → AreSame like p q → (ns : List ℕ) (fs : List (List ℕ × Ty)) (s : List ℕ) → AreLike like ns fs → union_by p ns s ≡ union_in q fs s
unfolding union_by union_in
union_alike like p q same ns fs s h =
    λ j. tag_in s >>= λ r. small_tag r.0 >>= λ n. content_alike like p q same n ns fs n r.1 h j

text_alike : (ts : Numbered) (like : ℕ → Ty → Type 0) (below n : ℕ) (o : Ty-F Ty) (s : List ℕ) → HasForm ts like n o → text_by below (ts.form n) s ≡ text_at below o s
text_alike ts like below n Ty-F.Int s h = ap (λ f. text_by below f s) h
text_alike ts like below n Ty-F.Bool s h = ap (λ f. text_by below f s) h
text_alike ts like below n Ty-F.Char s h = ap (λ f. text_by below f s) h
text_alike ts like below n Ty-F.Null s h = ap (λ f. text_by below f s) h
text_alike ts like below n (Ty-F.Arr e) s h = ap (λ f. text_by below f s) h.1
text_alike ts like below n (Ty-F.Stream e) s h = ap (λ f. text_by below f s) h.1
text_alike ts like below n (Ty-F.Rec fs) s h = ap (λ f. text_by below f s) h.0
text_alike ts like below n (Ty-F.Uni fs) s h = ap (λ f. text_by below f s) h.0

form_alike : (ts : Numbered) (like : ℕ → Ty → Type 0) (p : ℕ → Reader) (q : Ty → Reader) → AreSame like p q → ((m : ℕ) (e : Ty) (below : ℕ) (s : List ℕ) → like m e → text_by below (ts.form m) s ≡ text_at below (out-Ty e) s)
    → (below n : ℕ) (o : Ty-F Ty) (s : List ℕ) → HasForm ts like n o → form_by ts below p n (ts.form n) s ≡ typed_in below q o s
form_alike ts like p q same texts below n Ty-F.Int s h = ap (λ f. form_by ts below p n f s) h
form_alike ts like p q same texts below n Ty-F.Bool s h = ap (λ f. form_by ts below p n f s) h
form_alike ts like p q same texts below n Ty-F.Char s h = ap (λ f. form_by ts below p n f s) h
form_alike ts like p q same texts below n Ty-F.Null s h = ap (λ f. form_by ts below p n f s) h
form_alike ts like p q same texts below n (Ty-F.Arr e) s h =
    let is : form_by ts below p n (ts.form n) s ≡ or_else (array_in (p h.0) s) (text_by below (ts.form h.0) s) = ap (λ f. form_by ts below p n f s) h.1 in
    is ∙ λ j. or_else (array_in (same h.0 e h.2 j) s) (texts h.0 e below s h.2 j)
form_alike ts like p q same texts below n (Ty-F.Stream e) s h =
    let is : form_by ts below p n (ts.form n) s ≡ stream_in (p h.0) s = ap (λ f. form_by ts below p n f s) h.1 in
    is ∙ λ j. stream_in (same h.0 e h.2 j) s
form_alike ts like p q same texts below n (Ty-F.Rec fs) s h =
    let is : form_by ts below p n (ts.form n) s ≡ record_by p (ts.members n) s = ap (λ f. form_by ts below p n f s) h.0 in
    is ∙ record_alike like p q same (ts.members n) fs s h.1
form_alike ts like p q same texts below n (Ty-F.Uni fs) s h =
    let is : form_by ts below p n (ts.form n) s ≡ union_by p (ts.members n) s = ap (λ f. form_by ts below p n f s) h.0 in
    is ∙ union_alike like p q same (ts.members n) fs s h.1

part_alike : (ts : Numbered) (k n : ℕ) (t : Ty) → IsLike ts (suc k) n t → part_by ts k n ≡ part_in k t
part_alike ts zero n t h = λ j s. None
part_alike ts (suc k) n t h =
    let texts : (m : ℕ) (e : Ty) (below : ℕ) (s : List ℕ) → IsLike ts (suc k) m e → text_by below (ts.form m) s ≡ text_at below (out-Ty e) s =
    λ m e below s l. text_alike ts (IsLike ts k) below m (out-Ty e) s l in
    λ j s. or_else (form_alike ts (IsLike ts (suc k)) (part_by ts k) (part_in k) (part_alike ts k) texts k n (out-Ty t) s h j) (error_in s)

pub text_alike_by : (ts : Numbered) (n : ℕ) (t : Ty) (text : List ℕ) → StandsFor ts n t → text_value_by text ts n ≡ text_value text t
text_alike_by ts n t text h = λ j. part_alike ts 64 n t (h 65) j (past_blanks text) >>= at_end
