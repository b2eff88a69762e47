-- Parts that are looked at one after another, at types by number.
use Rattle.std.proofs.Common.{◌≡◌, ℕ, zero, suc, ℤ, ◌+◌, ◌-◌, ◌<◌, List, [], ◌∷◌, ◌++◌, drop, length, slice_get, Option, Some, None, refl, sym, ap, ◌∙◌, arith}
use Rattle.std.proofs.lemmas.Option.{same_Some}
use Rattle.flow_value.specs.declared.value.Val.{Val}
use Rattle.value_text.specs.Tokens.{◌>>=◌, sign_in, past_blanks, or_else}
use Rattle.value_text.specs.Faults.{unless_own}
use Rattle.value_text.specs.Surveying.{Look, LookParts, with_look, array_found}
use Rattle.value_text.specs.SurveyingBy.{LookerBy, type_by, parts_look_by, array_look_by, stream_look_by, record_look_by, element_if, item_if, fields_if, asks_by, asks_record, is_array_type, is_stream_type}
use Rattle.value_text.specs.Reading.{Reader, with_rest, bound_in}
use Rattle.value_text.specs.Numbered.{Numbered}
use Rattle.value_text.specs.ReadingBy.{members_by, part_by, value_by}
use Rattle.value_text.specs.declared.type_form.TypeForm.{TypeForm}
use Rattle.value_text.proofs.Joins.{joined_looks, one_less, joined_more}
use Rattle.value_text.proofs.Parts.{joined, joined-with_part}

pub parts_more_by : (part : LookerBy) (o : Option ℕ) (ns : List ℕ) (close n k : ℕ) (w v : Option ℕ) (s a : List ℕ) → k < n → sign_in close s ≡ None → part (type_by o ns k) s ≡ Some (v, a) → joined_looks k w (parts_look_by part o ns close (n - k) k s) ≡ joined_looks (k + 1) (or_else w v) (parts_look_by part o ns close (n - (k + 1)) (k + 1) (past_blanks a))
unfolding parts_look_by
parts_more_by part o ns close n k w v s a h e f = rw (one_less n k h, e, f) (joined_more k w v (parts_look_by part o ns close (n - (k + 1)) (k + 1) (past_blanks a)))

pub part_value_by : (ts : Numbered) (n number : ℕ) (s : List ℕ) → (n ≡ 0 → ⊥) → part_by ts n number s ≡ value_by ts (n - 1) number s
part_value_by ts zero number s h = absurd (h refl)
part_value_by ts (suc n) number s h = let e : suc n - 1 ≡ n = omega arith in rw e refl

-- ---- members

at_place : (ns : List ℕ) (i m : ℕ) → slice_get ns i ≡ Some m → drop i ns ≡ m ∷ drop (i + 1) ns
at_place [] i m e = cc
at_place (n ∷ ns) zero m e = ap (λ k. k ∷ ns) (same_Some n m e)
at_place (n ∷ ns) (suc i) m e = let s : suc i + 1 ≡ suc (i + 1) = omega arith in at_place ns i m e ∙ ap (λ k. m ∷ drop k (n ∷ ns)) (sym s)

pub members_more : (part : ℕ → Reader) (ns : List ℕ) (i m : ℕ) (s : List ℕ) (front : List Val) (v : Val) (a : List ℕ) → slice_get ns i ≡ Some m → part m (past_blanks s) ≡ Some (v, a)
    → joined front (members_by part (drop i ns) s) ≡ joined (front ++ v ∷ []) (members_by part (drop (i + 1) ns) a)
members_more part ns i m s front v a e f = rw (at_place ns i m e, f) (joined-with_part front v (members_by part (drop (i + 1) ns) a))

pub members_none : (part : ℕ → Reader) (ns : List ℕ) (i m : ℕ) (s : List ℕ) → slice_get ns i ≡ Some m → part m (past_blanks s) ≡ None → members_by part (drop i ns) s ≡ None
members_none part ns i m s e f = rw (at_place ns i m e, f) refl

-- ---- aggregates

pub array_looked : (part : LookerBy) (f : Option TypeForm) (s : List ℕ) (lo : ℤ) (b : List ℕ) (count : ℕ) (inside : Option ℕ) (r : List ℕ) → bound_in s ≡ Some (lo, b)
    → parts_look_by part (element_if f) [] 93 4194304 0 (past_blanks b) ≡ Some ((count, inside), r) → array_look_by part f s ≡ array_found lo (asks_by is_array_type f) (length s) ((count, inside), r)
unfolding array_look_by
array_looked part f s lo b count inside r e h = rw (e, h) refl

pub stream_looked : (part : LookerBy) (f : Option TypeForm) (s a : List ℕ) (count : ℕ) (inside : Option ℕ) (r : List ℕ) → sign_in 123 s ≡ Some a
    → parts_look_by part (item_if f) [] 125 4194304 0 (past_blanks a) ≡ Some ((count, inside), r) → stream_look_by part f s ≡ Some (unless_own (asks_by is_stream_type f) (length s) inside, r)
unfolding stream_look_by
stream_looked part f s a count inside r e h = rw (e, h) refl

pub record_looked : (ts : Numbered) (part : LookerBy) (o : Option ℕ) (s a : List ℕ) (count : ℕ) (inside : Option ℕ) (r : List ℕ) → sign_in 60 s ≡ Some a
    → parts_look_by part None (fields_if ts o) 62 4194304 0 (past_blanks a) ≡ Some ((count, inside), r) → record_look_by ts part o s ≡ Some (unless_own (asks_record ts count o) (length s) inside, r)
unfolding record_look_by
record_looked ts part o s a count inside r e h = rw (e, h) refl
