-- Folds of values of a type are values of what is made of them.
use Rattle.std.proofs.Common.{◌≡◌, ℤ, pos, Bool, true, false, ◌||◌, List, [], ◌∷◌, length, Option, Some, None, refl, ap, sym, subst}
use Rattle.std.specs.Int.{int_max, int_min}
use Rattle.std.specs.List.{list_all, list_any, flat_map}
use Rattle.flow_value.specs.Bounds.{is_few}
use Rattle.flow_value.specs.Scalar.{fits_64, fitted}
use Rattle.flow_value.specs.declared.value.Val.{Val}
use Rattle.flow_value.specs.declared.value.Val.TheVariants as val
use Rattle.flow_value.specs.declared.cause.Cause.{Cause}
use Rattle.flow_value.specs.declared.cause.Cause.TheVariants as cause
use Rattle.flow_value.specs.declared.ty.Ty.{Ty}
use Rattle.flow_value.specs.declared.ty.Ty.TheVariants as ty
use Rattle.flow_value.specs.Well.{is_well}
use Rattle.loop_folds.specs.Elements.{checked, first_error}
use Rattle.loop_folds.specs.Folds.{later_of, last_of, or_empty, sum_of, product_of, integer_of, one_of, extreme_of, found, elements_in, elements_of, first_bound, lower_bound_of, lower_bound_in, is_stream, stream_in, catenated, catenate_fold}
use Rattle.loop_folds.specs.declared.folding.Folding.{Folding}
use Rattle.loop_folds.specs.declared.masking.Keep.TheVariants.{Kept, Dropped, Failed}
use Rattle.loop_folds.specs.Clauses.{Cell, first_failure, kept_values, gathered, unless_failed}
use Rattle.typed_rows.specs.Rows.{Of, Makes, CellsOf, AreFoldsWell}
use Rattle.typed_rows.specs.Rows as is
use Rattle.typed_rows.proofs.ValueKinds.{IntKind, an_int, no_int, ArrKind, an_arr, no_arr, StreamKind, a_stream, no_stream, as_int, as_arr, as_stream, of_error, of_int, out_err, out_arr, out_stream}
use Rattle.typed_rows.proofs.Scalars.{of_fitted, max_fits, min_fits}
use Rattle.typed_rows.proofs.Rows.{and_two, all_append, of_array, of_stream_val, parts_of}

abbrev pub AllOf : Ty → List Val → Type 0
AllOf a vs = list_all (is_well a) vs ≡ true

-- ---- folds

abbrev OptOf : Ty → Option Val → Type 0
OptOf a None = Unit {0}
OptOf a (Some v) = Of a v

later_well : (a : Ty) (v : Val) (o : Option Val) → Of a v → OptOf a o → OptOf a (later_of (Some v) o)
later_well a v None h k = h
later_well a v (Some w) h k = k

last_well : (a : Ty) (vs : List Val) → AllOf a vs → OptOf a (last_of vs)
last_well a [] h = tt
last_well a (v ∷ vs) h = let z = and_two (is_well a v) (list_all (is_well a) vs) h in later_well a v (last_of vs) z.0 (last_well a vs z.1)

empty_well : (a : Ty) (o : Option Val) → OptOf a o → Of a (or_empty o)
empty_well a None h = of_error a cause.Empty
empty_well a (Some v) h = h

checked_well : (t : Ty) (o : Option Cause) (b : Bool) (v : Val) → Of t v → Of t (checked o b v)
checked_well t (Some c) b v h = of_error t c
checked_well t None true v h = of_error t cause.Explicit
checked_well t None false v h = h

abbrev OptFits : Option ℤ → Type 0
OptFits None = Unit {0}
OptFits (Some n) = fits_64 n ≡ true

integer_fits : (v : Val) → IntKind v → OptFits (integer_of v)
integer_fits _ (an_int n h) = h
integer_fits _ (no_int c) = tt

one_fits : (f : ℤ → ℤ → ℤ) → ((m n : ℤ) → fits_64 m ≡ true → fits_64 n ≡ true → fits_64 (f m n) ≡ true) → (a b : Option ℤ) → OptFits a → OptFits b → OptFits (one_of f a b)
one_fits f p None b h k = k
one_fits f p (Some m) None h k = h
one_fits f p (Some m) (Some n) h k = p m n h k

extreme_fits : (f : ℤ → ℤ → ℤ) → ((m n : ℤ) → fits_64 m ≡ true → fits_64 n ≡ true → fits_64 (f m n) ≡ true) → (vs : List Val) → AllOf ty.Int vs → OptFits (extreme_of f vs)
extreme_fits f p [] h = tt
extreme_fits f p (v ∷ vs) h = let z = and_two (is_well ty.Int v) (list_all (is_well ty.Int) vs) h in one_fits f p (integer_of v) (extreme_of f vs) (integer_fits v (as_int v z.0)) (extreme_fits f p vs z.1)

found_well : (o : Option ℤ) → OptFits o → Of ty.Int (found o)
found_well None h = of_error ty.Int cause.Empty
found_well (Some n) h = of_int n h

no_stream_in : (a : Ty) (v : Val) → ArrKind a v → is_stream v ≡ false
no_stream_in a _ (an_arr b h) = ap stream_in (out_arr b)
no_stream_in a _ (no_arr c) = ap stream_in (out_err c)

no_streams : (a : Ty) (vs : List Val) → AllOf (ty.Arr a) vs → list_any is_stream vs ≡ false
no_streams a [] h = refl
no_streams a (v ∷ vs) h = let z = and_two (is_well (ty.Arr a) v) (list_all (is_well (ty.Arr a)) vs) h in rw (no_stream_in a v (as_arr a v z.0), no_streams a vs z.1) refl

pub array_elements : (a : Ty) (v : Val) → ArrKind a v → AllOf a (elements_of v)
array_elements a _ (an_arr b h) = subst (λ y. AllOf a (elements_in y)) (sym (out_arr b)) (parts_of a b h).all
array_elements a _ (no_arr c) = subst (λ y. AllOf a (elements_in y)) (sym (out_err c)) refl

pub stream_elements : (a : Ty) (v : Val) → StreamKind a v → AllOf a (elements_of v)
stream_elements a _ (a_stream vs h) = subst (λ y. AllOf a (elements_in y)) (sym (out_stream vs)) (and_two (is_few (length vs)) (list_all (is_well a) vs) h).1
stream_elements a _ (no_stream c) = subst (λ y. AllOf a (elements_in y)) (sym (out_err c)) refl

all_elements : (a t : Ty) → ((v : Val) → Of t v → AllOf a (elements_of v)) → (vs : List Val) → AllOf t vs → AllOf a (flat_map elements_of vs)
all_elements a t f [] h = refl
all_elements a t f (v ∷ vs) h = let z = and_two (is_well t v) (list_all (is_well t) vs) h in all_append (is_well a) (elements_of v) (flat_map elements_of vs) (f v z.0) (all_elements a t f vs z.1)

catenated_array : (a : Ty) (o : Option ℤ) (b : Bool) (xs : List Val) → b ≡ false → AllOf a xs → Of (ty.Arr a) (catenated o b xs)
catenated_array a None false xs e h = of_array a (pos 1) xs h
catenated_array a (Some lo) false xs e h = of_array a lo xs h
catenated_array a o true xs e h = absurd cc

no_bound_in : (a : Ty) (v : Val) → StreamKind a v → lower_bound_of v ≡ None
no_bound_in a _ (a_stream vs h) = ap lower_bound_in (out_stream vs)
no_bound_in a _ (no_stream c) = ap lower_bound_in (out_err c)

no_bounds : (a : Ty) (vs : List Val) → AllOf (ty.Stream a) vs → first_bound vs ≡ None
no_bounds a [] h = refl
no_bounds a (v ∷ vs) h = let z = and_two (is_well (ty.Stream a) v) (list_all (is_well (ty.Stream a)) vs) h in rw (no_bound_in a v (as_stream a v z.0), no_bounds a vs z.1) refl

catenated_stream : (a : Ty) (o : Option ℤ) (b : Bool) (xs : List Val) → o ≡ None → b ≡ true → AllOf a xs → Of (ty.Stream a) (catenated o b xs)
catenated_stream a None true xs e g h = of_stream_val a xs h
catenated_stream a None false xs e g h = absurd cc
catenated_stream a (Some lo) b xs e g h = absurd cc

streams_well : (a : Ty) (v : Val) (vs : List Val) → StreamKind a v → AllOf (ty.Stream a) (v ∷ vs) → Of (ty.Stream a) (catenate_fold (v ∷ vs))
streams_well a _ vs (no_stream c) h = of_error (ty.Stream a) c
streams_well a _ vs (a_stream ws k) h =
    checked_well (ty.Stream a) (first_error (val.Stream ws ∷ vs)) _ (catenated (first_bound (val.Stream ws ∷ vs)) (list_any is_stream (val.Stream ws ∷ vs)) (flat_map elements_of (val.Stream ws ∷ vs)))
    (catenated_stream a (first_bound (val.Stream ws ∷ vs)) (list_any is_stream (val.Stream ws ∷ vs)) (flat_map elements_of (val.Stream ws ∷ vs)) (no_bounds a (val.Stream ws ∷ vs) h)
    (ap (λ b. b || list_any is_stream vs) (ap stream_in (out_stream ws)))
    (all_elements a (ty.Stream a) (λ v w. stream_elements a v (as_stream a v w)) (val.Stream ws ∷ vs) h))

pub gathered_well : (f : Folding) (a b : Ty) → Makes f a b → (lower : ℤ) (vs : List Val) → AllOf a vs → Of b (gathered f lower vs)
gathered_well _ _ _ (is.makes_array a) lower vs h = of_array a lower vs h
gathered_well _ _ _ (is.makes_stream a) lower vs h = of_stream_val a vs h
gathered_well _ _ _ (is.makes_last a) lower vs h = empty_well a (last_of vs) (last_well a vs h)
gathered_well _ _ _ is.makes_sum lower vs h = checked_well ty.Int (first_error vs) _ (fitted (sum_of vs)) (of_fitted (sum_of vs))
gathered_well _ _ _ is.makes_product lower vs h = checked_well ty.Int (first_error vs) _ (fitted (product_of vs)) (of_fitted (product_of vs))
gathered_well _ _ _ is.makes_least lower vs h = checked_well ty.Int (first_error vs) _ (found (extreme_of int_min vs)) (found_well (extreme_of int_min vs) (extreme_fits int_min min_fits vs h))
gathered_well _ _ _ is.makes_greatest lower vs h = checked_well ty.Int (first_error vs) _ (found (extreme_of int_max vs)) (found_well (extreme_of int_max vs) (extreme_fits int_max max_fits vs h))
gathered_well _ _ _ (is.makes_arrays a) lower vs h =
    checked_well (ty.Arr a) (first_error vs) _ (catenated (first_bound vs) (list_any is_stream vs) (flat_map elements_of vs))
    (catenated_array a (first_bound vs) (list_any is_stream vs) (flat_map elements_of vs) (no_streams a vs h) (all_elements a (ty.Arr a) (λ v w. array_elements a v (as_arr a v w)) vs h))
gathered_well _ _ _ (is.makes_streams a) lower [] h = of_stream_val a [] refl
gathered_well _ _ _ (is.makes_streams a) lower (v ∷ vs) h = streams_well a v vs (as_stream a v (and_two (is_well (ty.Stream a) v) (list_all (is_well (ty.Stream a)) vs) h).0) h

-- ---- cells

kept_well : (a : Ty) (cells : List Cell) → CellsOf a cells → AllOf a (kept_values cells)
kept_well a [] h = refl
kept_well a ((v, Kept) ∷ cells) h = rw (h.0, kept_well a cells h.1) refl
kept_well a ((v, Dropped) ∷ cells) h = kept_well a cells h.1
kept_well a ((v, Failed c) ∷ cells) h = kept_well a cells h.1

unless_well : (b : Ty) (o : Option Cause) (v : Val) → Of b v → Of b (unless_failed o v)
unless_well b None v h = h
unless_well b (Some c) v h = of_error b c

pub folds_well : AreFoldsWell
folds_well f a b k lower cells h = unless_well b (first_failure cells) (gathered f lower (kept_values cells)) (gathered_well f a b k lower (kept_values cells) (kept_well a cells h))
