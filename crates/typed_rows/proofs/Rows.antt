-- Operands of the types of a row give a value of its type.
use Rattle.std.proofs.Common.{◌≡◌, ℕ, zero, suc, ◌≤◌, ◌-◌, ℤ, pos, negsuc, Bool, true, false, ◌&&◌, List, [], ◌∷◌, ◌++◌, map, length, take, drop, Option, Some, None, slice_get, option_map, refl, ap, sym, subst, ◌∙◌, arith}
use Rattle.std.proofs.lemmas.Int.{ints}
use Rattle.std.specs.Prelude.{nat_lt, nat_eq, if◌then◌else◌, replicate, slice_set, option_and_then, ◌+ℤ◌, ◌-ℤ◌, int_le}
use Rattle.std.proofs.lemmas.Option.{same_Some, none-some, slice_get-map}
use Rattle.std.specs.List.{list_all}
use Rattle.std.proofs.lemmas.Bool.{lt-ltb, le-leb, leb-true}
use Rattle.flow_value.specs.declared.value.Val.{Val}
use Rattle.flow_value.specs.declared.value.Val.TheVariants as val
use Rattle.flow_value.specs.declared.cause.Cause.TheVariants as cause
use Rattle.flow_value.specs.declared.operation.Scalar1.TheVariants as one
use Rattle.flow_value.specs.declared.operation.Scalar2.TheVariants as two
use Rattle.flow_value.specs.declared.ty.Ty.{Ty}
use Rattle.flow_value.specs.declared.ty.Ty.TheVariants as ty
use Rattle.flow_value.specs.Bounds.{Bounded, bounded, is_few, is_in_range, is_within}
use Rattle.flow_value.specs.Scalar.{fits_64, unless_error}
use Rattle.flow_value.specs.Aggregates.{array_val, stream_val, in_bounds_val}
use Rattle.flow_value.specs.Well.{is_well, array_test, by_tag, are_well_fields}
use Rattle.value_ops.specs.Aggregates.{places, element, updated, place_of, or_bounds, or_explicit, with_last, with_first, without_last, without_first, unless_empty, from_bound, first_of, rest_of, natural, are_places, adjusted, joined, all_items, array_items_in, stream_items_in, replaced, changed, last_place, unless_alone}
use Rattle.flow_value.specs.declared.value.Val.TheOpen.{Val-F}
use Rattle.flow_value.specs.declared.value.Val.TheViews.{out-Val}
use Rattle.value_ops.specs.Arity.{explicit, unless_errors}
use Rattle.value_ops.specs.Views.{on_integer, on_integers, array_in, stream_in, list_in, record_in, union_in, on_array, on_stream, on_list, on_record, on_union}
use Rattle.value_ops.specs.Operations.{op_value}
use Rattle.value_ops.specs.declared.operation.Operation.TheVariants as op
use Rattle.typed_rows.specs.Rows.{Of, AreOf, AreAll, AreFields, Member, Row, AreRowsWell}
use Rattle.typed_rows.specs.Rows as is
use Rattle.typed_rows.proofs.ValueKinds.{IntKind, an_int, no_int, ArrKind, an_arr, no_arr, StreamKind, a_stream, no_stream, RecKind, a_rec, no_rec, UniKind, a_uni, no_uni, out_err, out_arr, out_stream, out_rec, out_uni, of_int, of_bool, of_rec, of_uni, as_int, as_bool, as_char, as_arr, as_stream, as_rec, as_uni, of_error, of_arr, of_stream}
use Rattle.typed_rows.proofs.Scalars.{with_none, with_one, with_two, with_three, neg_well, abs_well, not_well, int_int_well, int_bool_well, int_char_well, bool_bool_well, bool_int_well, char_char_well, char_int_well, is_error_well, arithmetic_well, either_well, both_well, equality_well, order_well}

-- ---- aggregates

pub of_array : (t : Ty) (lo : ℤ) (vs : List Val) → list_all (is_well t) vs ≡ true → Of (ty.Arr t) (array_val lo vs)
of_array t lo vs h = by (is_few (length vs)) refl
  where
    in_bounds : is_few (length vs) ≡ true → (b c : Bool) → fits_64 lo ≡ b → is_in_range lo (length vs) ≡ c → Of (ty.Arr t) (if b && c then val.Arr (bounded lo vs) else val.Err cause.Bounds)
    in_bounds f true true e r = of_arr t (bounded lo vs) (rw (e, f, r, h) refl)
    in_bounds f true false e r = of_error (ty.Arr t) cause.Bounds
    in_bounds f false c e r = of_error (ty.Arr t) cause.Bounds

    by : (b : Bool) → is_few (length vs) ≡ b → Of (ty.Arr t) (if b then in_bounds_val lo vs else val.Err cause.Size)
    by true f = in_bounds f (fits_64 lo) (is_in_range lo (length vs)) refl refl
    by false f = of_error (ty.Arr t) cause.Size

-- ---- elements

pub and_two : (a b : Bool) → (a && b) ≡ true → (a ≡ true) × (b ≡ true)
and_two true b e = (refl, e)
and_two false b e = absurd cc

module _ (q : Val → Bool) where
  pub all_append : (xs ys : List Val) → list_all q xs ≡ true → list_all q ys ≡ true → list_all q (xs ++ ys) ≡ true
  all_append [] ys h k = k
  all_append (x ∷ xs) ys h k = let z = and_two (q x) (list_all q xs) h in rw (z.0, all_append xs ys z.1 k) refl

  all_take : (n : ℕ) (xs : List Val) → list_all q xs ≡ true → list_all q (take n xs) ≡ true
  all_take zero xs h = refl
  all_take (suc n) [] h = refl
  all_take (suc n) (x ∷ xs) h = let z = and_two (q x) (list_all q xs) h in rw (z.0, all_take n xs z.1) refl

  all_drop : (n : ℕ) (xs : List Val) → list_all q xs ≡ true → list_all q (drop n xs) ≡ true
  all_drop zero xs h = h
  all_drop (suc n) [] h = refl
  all_drop (suc n) (x ∷ xs) h = all_drop n xs (and_two (q x) (list_all q xs) h).1

  pub all_get : (xs : List Val) (i : ℕ) (v : Val) → list_all q xs ≡ true → slice_get xs i ≡ Some v → q v ≡ true
  all_get [] i v h e = absurd (none-some v e)
  all_get (x ∷ xs) zero v h e = subst (λ y. q y ≡ true) (same_Some x v e) (and_two (q x) (list_all q xs) h).0
  all_get (x ∷ xs) (suc i) v h e = all_get xs i v (and_two (q x) (list_all q xs) h).1 e

  all_set : (xs : List Val) (i : ℕ) (v : Val) → q v ≡ true → list_all q xs ≡ true → list_all q (slice_set xs i v) ≡ true
  all_set [] i v p h = refl
  all_set (x ∷ xs) zero v p h = rw (p, (and_two (q x) (list_all q xs) h).1) refl
  all_set (x ∷ xs) (suc i) v p h = let z = and_two (q x) (list_all q xs) h in rw (z.0, all_set xs i v p z.1) refl

  all_copies : (n : ℕ) (v : Val) → q v ≡ true → list_all q (replicate n v) ≡ true
  all_copies zero v p = refl
  all_copies (suc n) v p = rw (p, all_copies n v p) refl

pub of_all : (a : Ty) (tys : List Ty) (vs : List Val) → AreAll a tys → AreOf tys vs → list_all (is_well a) vs ≡ true
of_all a [] [] s h = refl
of_all a [] (v ∷ vs) s h = absurd h
of_all a (t ∷ tys) [] s h = absurd h
of_all a (t ∷ tys) (v ∷ vs) s h = rw (subst (λ b. Of b v) s.0 h.0, of_all a tys vs s.1 h.1) refl

-- ---- one level

in_array : (t : Ty) (f : Bounded Val → Val) (b : Bounded Val) → Of t (f b) → Of t (on_array f (val.Arr b))
in_array t f b h = subst (λ y. Of t (array_in f y)) (sym (out_arr b)) h

in_stream : (t : Ty) (f : List Val → Val) (vs : List Val) → Of t (f vs) → Of t (on_stream f (val.Stream vs))
in_stream t f vs h = subst (λ y. Of t (stream_in f y)) (sym (out_stream vs)) h

list_array : (t : Ty) (f : Bounded Val → Val) (g : List Val → Val) (b : Bounded Val) → Of t (f b) → Of t (on_list f g (val.Arr b))
list_array t f g b h = subst (λ y. Of t (list_in f g y)) (sym (out_arr b)) h

list_stream : (t : Ty) (f : Bounded Val → Val) (g : List Val → Val) (vs : List Val) → Of t (g vs) → Of t (on_list f g (val.Stream vs))
list_stream t f g vs h = subst (λ y. Of t (list_in f g y)) (sym (out_stream vs)) h

in_union : (t : Ty) (f : ℕ → Val → Val) (tag : ℕ) (v : Val) → Of t (f tag v) → Of t (on_union f (val.Uni tag v))
in_union t f tag v h = subst (λ y. Of t (union_in f y)) (sym (out_uni tag v)) h

in_record : (t : Ty) (f : List Val → Val) (vs : List Val) → Of t (f vs) → Of t (on_record f (val.Rec vs))
in_record t f vs h = subst (λ y. Of t (record_in f y)) (sym (out_rec vs)) h

pub record IsArray (t : Ty) (a : Bounded Val) : Type 0 where
  pub low : fits_64 a.lo ≡ true
  pub few : is_few (length a.items) ≡ true
  pub range : is_in_range a.lo (length a.items) ≡ true
  pub all : list_all (is_well t) a.items ≡ true

pub parts_of : (t : Ty) (a : Bounded Val) → array_test (is_well t) a ≡ true → IsArray t a
parts_of t a h =
    let x = and_two (fits_64 a.lo && is_within a.lo (length a.items)) (list_all (is_well t) a.items) h in
    let y = and_two (fits_64 a.lo) (is_within a.lo (length a.items)) x.0 in
    let z = and_two (is_few (length a.items)) (is_in_range a.lo (length a.items)) y.1 in
    record { low = y.0; few = z.0; range = z.1; all = x.1 }

pub of_stream_val : (t : Ty) (vs : List Val) → list_all (is_well t) vs ≡ true → Of (ty.Stream t) (stream_val vs)
of_stream_val t vs h = by (is_few (length vs)) refl
  where
    by : (b : Bool) → is_few (length vs) ≡ b → Of (ty.Stream t) (if b then val.Stream vs else val.Err cause.Size)
    by true f = of_stream t vs (rw (f, h) refl)
    by false f = of_error (ty.Stream t) cause.Size

unless_empty_well : (t : Ty) (vs : List Val) (w : Val) → Of t w → Of t (unless_empty vs w)
unless_empty_well t [] w h = of_error t cause.Empty
unless_empty_well t (v ∷ vs) w h = h

pub fill_well : (a : Ty) (lo hi v : Val) → IntKind lo → IntKind hi → Of a v → Of (ty.Arr a) (op_value op.Fill (lo ∷ hi ∷ v ∷ []))
fill_well a _ _ v (an_int m h) (an_int n k) w = of_array a m (replicate (places m n) v) (all_copies (is_well a) (places m n) v w)
fill_well a _ _ v (an_int m h) (no_int c) w = of_error (ty.Arr a) c
fill_well a _ hi v (no_int c) k w = of_error (ty.Arr a) c

or_bounds_get : (a : Ty) (xs : List Val) (o : Option ℕ) → list_all (is_well a) xs ≡ true → Of a (or_bounds (option_and_then (slice_get xs) o))
or_bounds_get a xs None h = of_error a cause.Bounds
or_bounds_get a xs (Some i) h = by (slice_get xs i) refl
  where
    by : (o : Option Val) → slice_get xs i ≡ o → Of a (or_bounds o)
    by None e = of_error a cause.Bounds
    by (Some v) e = all_get (is_well a) xs i v h e

pub element_well : (a : Ty) (v i : Val) → ArrKind a v → IntKind i → Of a (op_value op.Element (v ∷ i ∷ []))
element_well a _ _ (an_arr b h) (an_int n k) = in_array a (λ x. on_integer (element x) (val.Int n)) b (or_bounds_get a b.items (place_of b n) (parts_of a b h).all)
element_well a _ _ (an_arr b h) (no_int c) = of_error a c
element_well a _ i (no_arr c) k = of_error a c

set_length : (xs : List Val) (i : ℕ) (v : Val) → length (slice_set xs i v) ≡ length xs
set_length [] i v = refl
set_length (x ∷ xs) zero v = refl
set_length (x ∷ xs) (suc i) v = ap suc (set_length xs i v)

or_bounds_set : (a : Ty) (b : Bounded Val) (v : Val) (o : Option ℕ) → array_test (is_well a) b ≡ true → Of a v → Of (ty.Arr a) (or_bounds (option_map (λ n. val.Arr (bounded b.lo (slice_set b.items n v))) o))
or_bounds_set a b v None h w = of_error (ty.Arr a) cause.Bounds
or_bounds_set a b v (Some n) h w =
    let p = parts_of a b h in of_arr a (bounded b.lo (slice_set b.items n v)) (rw (set_length b.items n v, p.low, p.few, p.range, all_set (is_well a) b.items n v w p.all) refl)

pub update_well : (a : Ty) (v i x : Val) → ArrKind a v → IntKind i → Of a x → Of (ty.Arr a) (op_value op.Update (v ∷ i ∷ x ∷ []))
update_well a _ _ x (an_arr b h) (an_int n k) w = in_array (ty.Arr a) (λ y. on_integer (updated x y) (val.Int n)) b (or_bounds_set a b x (place_of b n) h w)
update_well a _ _ x (an_arr b h) (no_int c) w = of_error (ty.Arr a) c
update_well a _ i x (no_arr c) k w = of_error (ty.Arr a) c

pub add_high_well : (a : Ty) (v x : Val) → ArrKind a v → Of a x → Of (ty.Arr a) (op_value op.AddHigh (v ∷ x ∷ []))
add_high_well a _ x (an_arr b h) w =
    list_array (ty.Arr a) (with_last x) (λ xs. stream_val (xs ++ x ∷ [])) b (of_array a b.lo (b.items ++ x ∷ []) (all_append (is_well a) b.items (x ∷ []) (parts_of a b h).all (rw w refl)))
add_high_well a _ x (no_arr c) w = of_error (ty.Arr a) c

pub append_well : (a : Ty) (v x : Val) → StreamKind a v → Of a x → Of (ty.Stream a) (op_value op.AddHigh (v ∷ x ∷ []))
append_well a _ x (a_stream vs h) w =
    list_stream (ty.Stream a) (with_last x) (λ xs. stream_val (xs ++ x ∷ [])) vs (of_stream_val a (vs ++ x ∷ []) (all_append (is_well a) vs (x ∷ []) (and_two (is_few (length vs)) (list_all (is_well a) vs) h).1 (rw w refl)))
append_well a _ x (no_stream c) w = of_error (ty.Stream a) c

pub add_low_well : (a : Ty) (v x : Val) → ArrKind a v → Of a x → Of (ty.Arr a) (op_value op.AddLow (v ∷ x ∷ []))
add_low_well a _ x (an_arr b h) w = in_array (ty.Arr a) (with_first x) b (of_array a (b.lo -ℤ pos 1) (x ∷ b.items) (rw (w, (parts_of a b h).all) refl))
add_low_well a _ x (no_arr c) w = of_error (ty.Arr a) c

pub remove_high_well : (a : Ty) (v : Val) → ArrKind a v → Of (ty.Arr a) (op_value op.RemoveHigh (v ∷ []))
remove_high_well a _ (an_arr b h) =
    in_array (ty.Arr a) without_last b (unless_empty_well (ty.Arr a) b.items (array_val b.lo (take (length b.items - 1) b.items)) (of_array a b.lo (take (length b.items - 1) b.items) (all_take (is_well a) (length b.items - 1) b.items (parts_of a b h).all)))
remove_high_well a _ (no_arr c) = of_error (ty.Arr a) c

pub remove_low_well : (a : Ty) (v : Val) → ArrKind a v → Of (ty.Arr a) (op_value op.RemoveLow (v ∷ []))
remove_low_well a _ (an_arr b h) =
    in_array (ty.Arr a) without_first b (unless_empty_well (ty.Arr a) b.items (array_val (b.lo +ℤ pos 1) (drop 1 b.items)) (of_array a (b.lo +ℤ pos 1) (drop 1 b.items) (all_drop (is_well a) 1 b.items (parts_of a b h).all)))
remove_low_well a _ (no_arr c) = of_error (ty.Arr a) c

pub set_low_well : (a : Ty) (v i : Val) → ArrKind a v → IntKind i → Of (ty.Arr a) (op_value op.SetLow (v ∷ i ∷ []))
set_low_well a _ _ (an_arr b h) (an_int n k) = in_array (ty.Arr a) (λ x. on_integer (from_bound x) (val.Int n)) b (of_array a n b.items (parts_of a b h).all)
set_low_well a _ _ (an_arr b h) (no_int c) = of_error (ty.Arr a) c
set_low_well a _ i (no_arr c) k = of_error (ty.Arr a) c

pub limit_low_well : (a : Ty) (v : Val) → ArrKind a v → Of ty.Int (op_value op.LimitLow (v ∷ []))
limit_low_well a _ (an_arr b h) = in_array ty.Int (λ x. val.Int x.lo) b (of_int b.lo (parts_of a b h).low)
limit_low_well a _ (no_arr c) = of_error ty.Int c

pub first_well : (a : Ty) (v : Val) → StreamKind a v → Of a (op_value op.First (v ∷ []))
first_well a _ (a_stream vs h) = in_stream a first_of vs (by vs (and_two (is_few (length vs)) (list_all (is_well a) vs) h).1)
  where
    by : (vs : List Val) → list_all (is_well a) vs ≡ true → Of a (first_of vs)
    by [] h = of_error a cause.Empty
    by (v ∷ vs) h = (and_two (is_well a v) (list_all (is_well a) vs) h).0
first_well a _ (no_stream c) = of_error a c

pub is_empty_well : (a : Ty) (v : Val) → StreamKind a v → Of ty.Bool (op_value op.IsEmpty (v ∷ []))
is_empty_well a _ (a_stream vs h) = list_stream ty.Bool (λ b. val.Bool (nat_eq (length b.items) 0)) (λ xs. val.Bool (nat_eq (length xs) 0)) vs (of_bool (nat_eq (length vs) 0))
is_empty_well a _ (no_stream c) = of_error ty.Bool c

pub is_empty_array_well : (a : Ty) (v : Val) → ArrKind a v → Of ty.Bool (op_value op.IsEmpty (v ∷ []))
is_empty_array_well a _ (an_arr b h) = list_array ty.Bool (λ b. val.Bool (nat_eq (length b.items) 0)) (λ xs. val.Bool (nat_eq (length xs) 0)) b (of_bool (nat_eq (length b.items) 0))
is_empty_array_well a _ (no_arr c) = of_error ty.Bool c

pub is_tag_well : (ms : List Member) (tag : ℕ) (v : Val) → UniKind ms v → Of ty.Bool (op_value (op.IsTag tag) (v ∷ []))
is_tag_well ms tag _ (a_uni t v q) = in_union ty.Bool (λ t v. val.Bool (nat_eq tag t)) t v (of_bool (nat_eq tag t))
is_tag_well ms tag _ (no_uni c) = of_error ty.Bool c

pub union_well : (ms : List Member) (tag : ℕ) (m : Member) (v : Val) → slice_get ms tag ≡ Some m → Of m.1 v → Of (ty.Uni ms) (val.Uni tag v)
union_well ms tag m v e w = of_uni ms tag v (ap (λ o. by_tag o v) (slice_get-map (λ g. (g.0, is_well g.1)) ms tag ∙ ap (option_map (λ g. (g.0, is_well g.1))) e) ∙ w)

fields_well : (ms : List Member) (vs : List Val) → AreOf (map (λ m. m.1) ms) vs → are_well_fields ms vs ≡ true
fields_well [] [] h = refl
fields_well [] (v ∷ vs) h = absurd h
fields_well (m ∷ ms) [] h = absurd h
fields_well (m ∷ ms) (v ∷ vs) h = rw (h.0, fields_well ms vs h.1) refl

fields_counted : (ms : List Member) (vs : List Val) → AreOf (map (λ m. m.1) ms) vs → length vs ≡ length ms
fields_counted [] [] h = refl
fields_counted [] (v ∷ vs) h = absurd h
fields_counted (m ∷ ms) [] h = absurd h
fields_counted (m ∷ ms) (v ∷ vs) h = ap suc (fields_counted ms vs h.1)

pub record_well : (ms : List Member) (vs : List Val) → length ms ≤ 4194304 → AreOf (map (λ m. m.1) ms) vs → Of (ty.Rec ms) (val.Rec vs)
record_well ms vs few h = of_rec ms vs (rw (fields_counted ms vs h, le-leb (length ms) 4194304 few, fields_well ms vs h) refl)

field_there : (ms : List Member) (vs : List Val) (place : ℕ) (m : Member) → slice_get ms place ≡ Some m → are_well_fields ms vs ≡ true → Of m.1 (or_explicit (slice_get vs place))
field_there [] vs place m e h = absurd (none-some m e)
field_there (f ∷ ms) [] place m e h = of_error m.1 cause.Explicit
field_there (f ∷ ms) (v ∷ vs) zero m e h = subst (λ g. Of g.1 v) (same_Some f m e) (and_two (is_well f.1 v) (are_well_fields ms vs) h).0
field_there (f ∷ ms) (v ∷ vs) (suc place) m e h = field_there ms vs place m e (and_two (is_well f.1 v) (are_well_fields ms vs) h).1

pub field_well : (ms : List Member) (place : ℕ) (m : Member) (v : Val) → slice_get ms place ≡ Some m → RecKind ms v → Of m.1 (op_value (op.Field place) (v ∷ []))
field_well ms place m _ e (a_rec vs h) = in_record m.1 (λ fields. or_explicit (slice_get fields place)) vs (field_there ms vs place m e (and_two (is_few (length vs)) (are_well_fields ms vs) h).1)
field_well ms place m _ e (no_rec c) = of_error m.1 c

pub array_well : (a : Ty) (tys : List Ty) (v : Val) (vs : List Val) → AreAll a tys → IntKind v → AreOf tys vs → Of (ty.Arr a) (op_value op.Array (v ∷ vs))
array_well a tys _ vs s (an_int n k) h = of_array a n vs (of_all a tys vs s h)
array_well a tys _ vs s (no_int c) h = of_error (ty.Arr a) c

few_fits : (n : ℕ) → is_few n ≡ true → fits_64 (pos n) ≡ true
few_fits n h = let le : n ≤ 4194304 = leb-true n 4194304 h in lt-ltb n 9223372036854775808 (omega (arith, le))

pub size_well : (a : Ty) (v : Val) → ArrKind a v → Of ty.Int (op_value op.Size (v ∷ []))
size_well a _ (an_arr b h) = list_array ty.Int (λ b. val.Int (pos (length b.items))) (λ xs. val.Int (pos (length xs))) b (of_int (pos (length b.items)) (few_fits (length b.items) (parts_of a b h).few))
size_well a _ (no_arr c) = of_error ty.Int c

pub length_well : (a : Ty) (v : Val) → StreamKind a v → Of ty.Int (op_value op.Size (v ∷ []))
length_well a _ (a_stream vs h) = list_stream ty.Int (λ b. val.Int (pos (length b.items))) (λ xs. val.Int (pos (length xs))) vs (of_int (pos (length vs)) (few_fits (length vs) (and_two (is_few (length vs)) (list_all (is_well a) vs) h).0))
length_well a _ (no_stream c) = of_error ty.Int c

pub rest_well : (a : Ty) (v : Val) → StreamKind a v → Of (ty.Stream a) (op_value op.Rest (v ∷ []))
rest_well a _ (a_stream vs h) = in_stream (ty.Stream a) rest_of vs (by vs h)
  where
    by : (vs : List Val) → (is_few (length vs) && list_all (is_well a) vs) ≡ true → Of (ty.Stream a) (rest_of vs)
    by [] h = of_error (ty.Stream a) cause.Empty
    by (v ∷ vs) h =
        let z = and_two (is_few (length (v ∷ vs))) (list_all (is_well a) (v ∷ vs)) h in
        let le : suc (length vs) ≤ 4194304 = leb-true (suc (length vs)) 4194304 z.0 in
        of_stream a vs (rw (le-leb (length vs) 4194304 (omega (arith, le)), (and_two (is_well a v) (list_all (is_well a) vs) z.1).1) refl)
rest_well a _ (no_stream c) = of_error (ty.Stream a) c

if_bounds : (t : Ty) (b : Bool) (w : Val) → Of t w → Of t (if b then w else val.Err cause.Bounds)
if_bounds t true w h = h
if_bounds t false w h = of_error t cause.Bounds

pub adjust_well : (a : Ty) (v i j : Val) → ArrKind a v → IntKind i → IntKind j → Of (ty.Arr a) (op_value op.Adjust (v ∷ i ∷ j ∷ []))
adjust_well a _ _ _ (an_arr b h) (an_int m k) (an_int n l) =
    in_array (ty.Arr a) (λ x. on_integers (adjusted x) (val.Int m) (val.Int n)) b (if_bounds (ty.Arr a) (are_places b m n) (array_val m (take (places m n) (drop (natural (m -ℤ b.lo)) b.items)))
    (of_array a m (take (places m n) (drop (natural (m -ℤ b.lo)) b.items)) (all_take (is_well a) (places m n) (drop (natural (m -ℤ b.lo)) b.items) (all_drop (is_well a) (natural (m -ℤ b.lo)) b.items (parts_of a b h).all))))
adjust_well a _ _ _ (an_arr b h) (an_int m k) (no_int c) = of_error (ty.Arr a) c
adjust_well a _ _ j (an_arr b h) (no_int c) l = of_error (ty.Arr a) c
adjust_well a _ i j (no_arr c) k l = of_error (ty.Arr a) c

errors_well : (t : Ty) (vs : List Val) (w : Val) → Of t w → Of t (unless_errors vs w)
errors_well t [] w h = h
errors_well t (v ∷ vs) w h = go v (errors_well t vs w h)
  where
    go : (v : Val) → Of t (unless_errors vs w) → Of t (unless_error v (unless_errors vs w))
    go (val.Err c) k = of_error t c
    go _ k = k

-- the elements of all operands, where each is of the kind
abbrev MaybeAll : Ty → Option (List Val) → Type 0
MaybeAll a None = Unit {0}
MaybeAll a (Some xs) = list_all (is_well a) xs ≡ true

joined_well : (a : Ty) (xs ys : Option (List Val)) → MaybeAll a xs → MaybeAll a ys → MaybeAll a (joined xs ys)
joined_well a None ys h k = tt
joined_well a (Some xs) None h k = tt
joined_well a (Some xs) (Some ys) h k = all_append (is_well a) xs ys h k

array_items_well : (a : Ty) (v : Val) → ArrKind a v → MaybeAll a (array_items_in (out-Val v))
array_items_well a _ (an_arr b h) = subst (λ y. MaybeAll a (array_items_in y)) (sym (out_arr b)) (parts_of a b h).all
array_items_well a _ (no_arr c) = subst (λ y. MaybeAll a (array_items_in y)) (sym (out_err c)) tt

stream_items_well : (a : Ty) (v : Val) → StreamKind a v → MaybeAll a (stream_items_in (out-Val v))
stream_items_well a _ (a_stream vs h) = subst (λ y. MaybeAll a (stream_items_in y)) (sym (out_stream vs)) (and_two (is_few (length vs)) (list_all (is_well a) vs) h).1
stream_items_well a _ (no_stream c) = subst (λ y. MaybeAll a (stream_items_in y)) (sym (out_err c)) tt

all_items_well : (a t : Ty) (f : Val-F Val → Option (List Val)) → ((v : Val) → Of t v → MaybeAll a (f (out-Val v))) → (tys : List Ty) (vs : List Val) → AreAll t tys → AreOf tys vs → MaybeAll a (all_items f vs)
all_items_well a t f each [] [] s h = refl
all_items_well a t f each [] (v ∷ vs) s h = absurd h
all_items_well a t f each (u ∷ tys) [] s h = absurd h
all_items_well a t f each (u ∷ tys) (v ∷ vs) s h = joined_well a (f (out-Val v)) (all_items f vs) (each v (subst (λ b. Of b v) s.0 h.0)) (all_items_well a t f each tys vs s.1 h.1)

or_explicit_well : (a t : Ty) (make : List Val → Val) → ((xs : List Val) → list_all (is_well a) xs ≡ true → Of t (make xs)) → (o : Option (List Val)) → MaybeAll a o → Of t (or_explicit (option_map make o))
or_explicit_well a t make h None k = of_error t cause.Explicit
or_explicit_well a t make h (Some xs) k = h xs k

alone_well : (t : Ty) (vs : List Val) (w : Val) → Of t w → Of t (unless_alone vs w)
alone_well t [] w h = of_error t cause.Explicit
alone_well t (v ∷ vs) w h = h

pub arrays_well : (a : Ty) (v : Val) (tys : List Ty) (vs : List Val) → ArrKind a v → AreAll (ty.Arr a) tys → AreOf tys vs → Of (ty.Arr a) (op_value op.Catenate (v ∷ vs))
arrays_well a _ tys vs (an_arr b h) s w =
    let arrays : Bounded Val → Val = λ x. or_explicit (option_map (array_val x.lo) (joined (Some x.items) (all_items array_items_in vs))) in
    let streams : List Val → Val = λ xs. or_explicit (option_map stream_val (joined (Some xs) (all_items stream_items_in vs))) in
    alone_well (ty.Arr a) vs (unless_errors vs (on_list arrays streams (val.Arr b)))
    (errors_well (ty.Arr a) vs (on_list arrays streams (val.Arr b))
    (list_array (ty.Arr a) arrays streams b
    (or_explicit_well a (ty.Arr a) (array_val b.lo) (of_array a b.lo) (joined (Some b.items) (all_items array_items_in vs))
    (joined_well a (Some b.items) (all_items array_items_in vs) (parts_of a b h).all (all_items_well a (ty.Arr a) array_items_in (λ v k. array_items_well a v (as_arr a v k)) tys vs s w)))))
arrays_well a _ tys vs (no_arr c) s w = alone_well (ty.Arr a) vs (val.Err c) (of_error (ty.Arr a) c)

pub streams_well : (a : Ty) (v : Val) (tys : List Ty) (vs : List Val) → StreamKind a v → AreAll (ty.Stream a) tys → AreOf tys vs → Of (ty.Stream a) (op_value op.Catenate (v ∷ vs))
streams_well a _ tys vs (a_stream ws h) s w =
    let arrays : Bounded Val → Val = λ x. or_explicit (option_map (array_val x.lo) (joined (Some x.items) (all_items array_items_in vs))) in
    let streams : List Val → Val = λ xs. or_explicit (option_map stream_val (joined (Some xs) (all_items stream_items_in vs))) in
    alone_well (ty.Stream a) vs (unless_errors vs (on_list arrays streams (val.Stream ws)))
    (errors_well (ty.Stream a) vs (on_list arrays streams (val.Stream ws))
    (list_stream (ty.Stream a) arrays streams ws
    (or_explicit_well a (ty.Stream a) stream_val (of_stream_val a) (joined (Some ws) (all_items stream_items_in vs))
    (joined_well a (Some ws) (all_items stream_items_in vs) (and_two (is_few (length ws)) (list_all (is_well a) ws) h).1 (all_items_well a (ty.Stream a) stream_items_in (λ v k. stream_items_well a v (as_stream a v k)) tys vs s w)))))
streams_well a _ tys vs (no_stream c) s w = alone_well (ty.Stream a) vs (val.Err c) (of_error (ty.Stream a) c)

set_field : (ms : List Member) (vs : List Val) (place : ℕ) (v : Val) (name : List ℕ) (t : Ty) → slice_get ms place ≡ Some (name, t) → Of t v → are_well_fields ms vs ≡ true → are_well_fields ms (slice_set vs place v) ≡ true
set_field [] vs place v name t e w h = absurd (none-some (name, t) e)
set_field (m ∷ ms) [] place v name t e w h = absurd cc
set_field (m ∷ ms) (x ∷ vs) zero v name t e w h = rw (subst (λ g. Of g.1 v) (sym (same_Some m (name, t) e)) w, (and_two (is_well m.1 x) (are_well_fields ms vs) h).1) refl
set_field (m ∷ ms) (x ∷ vs) (suc place) v name t e w h = let z = and_two (is_well m.1 x) (are_well_fields ms vs) h in rw (z.0, set_field ms vs place v name t e w z.1) refl

replaced_well : (ms : List Member) (places : List ℕ) (tys : List Ty) (vs fields : List Val) → AreFields ms places tys → AreOf tys vs → (is_few (length fields) && are_well_fields ms fields) ≡ true
    → (is_few (length (replaced places vs fields)) && are_well_fields ms (replaced places vs fields)) ≡ true
replaced_well ms [] tys vs fields s w h = h
replaced_well ms (p ∷ ps) tys [] fields s w h = h
replaced_well ms (p ∷ ps) [] (v ∷ vs) fields s w h = absurd s
replaced_well ms (p ∷ ps) (t ∷ tys) (v ∷ vs) fields s w h =
    let z = and_two (is_few (length fields)) (are_well_fields ms fields) h in
    replaced_well ms ps tys vs (slice_set fields p v) s.1 w.1 (rw (set_length fields p v, z.0, set_field ms fields p v s.0.0 t s.0.1 w.0 z.1) refl)

if_explicit : (t : Ty) (b : Bool) (w : Val) → Of t w → Of t (if b then w else explicit)
if_explicit t true w h = h
if_explicit t false w h = of_error t cause.Explicit

pub change_well : (ms : List Member) (places : List ℕ) (tys : List Ty) (v : Val) (vs : List Val) → AreFields ms places tys → RecKind ms v → AreOf tys vs → Of (ty.Rec ms) (op_value (op.Change places) (v ∷ vs))
change_well ms places tys _ vs s (a_rec fields h) w =
    in_record (ty.Rec ms) (changed places vs) fields (if_explicit (ty.Rec ms) (nat_eq (length vs) (length places) && list_all (λ p. nat_lt p (length fields)) places) (val.Rec (replaced places vs fields))
    (of_rec ms (replaced places vs fields) (replaced_well ms places tys vs fields s w h)))
change_well ms places tys _ vs s (no_rec c) w = of_error (ty.Rec ms) c

high_fits : (y : ℤ) → (int_le (negsuc 9223372036854775806) y && int_le y (pos 9223372036854775808)) ≡ true → fits_64 (y -ℤ pos 1) ≡ true
high_fits (pos zero) h = refl
high_fits (pos (suc n)) h =
    let z = and_two (int_le (negsuc 9223372036854775806) (pos (suc n))) (int_le (pos (suc n)) (pos 9223372036854775808)) h in
    let l : suc n ≤ 9223372036854775808 = leb-true (suc n) 9223372036854775808 z.1 in
    let e : pos (suc n) -ℤ pos 1 ≡ pos n = omega (arith, ints) in
    subst (λ y. fits_64 y ≡ true) (sym e) (lt-ltb n 9223372036854775808 (omega (arith, l)))
high_fits (negsuc n) h =
    let z = and_two (int_le (negsuc 9223372036854775806) (negsuc n)) (int_le (negsuc n) (pos 9223372036854775808)) h in
    let l : n ≤ 9223372036854775806 = leb-true n 9223372036854775806 z.0 in
    let e : negsuc n -ℤ pos 1 ≡ negsuc (suc n) = omega (arith, ints) in
    subst (λ y. fits_64 y ≡ true) (sym e) (lt-ltb (suc n) 9223372036854775808 (omega (arith, l)))

pub limit_high_well : (a : Ty) (v : Val) → ArrKind a v → Of ty.Int (op_value op.LimitHigh (v ∷ []))
limit_high_well a _ (an_arr b h) = in_array ty.Int (λ x. val.Int (last_place x)) b (of_int (last_place b) (high_fits (b.lo +ℤ pos (length b.items)) (parts_of a b h).range))
limit_high_well a _ (no_arr c) = of_error ty.Int c

-- ---- rows

pub row_well : AreRowsWell
row_well _ _ _ is.negated vs h = with_one ty.Int (λ vs. Of ty.Int (op_value (op.Unary one.Neg) vs)) (λ v w. neg_well v (as_int v w)) vs h
row_well _ _ _ is.absolute vs h = with_one ty.Int (λ vs. Of ty.Int (op_value (op.Unary one.Abs) vs)) (λ v w. abs_well v (as_int v w)) vs h
row_well _ _ _ is.inverted vs h = with_one ty.Bool (λ vs. Of ty.Bool (op_value (op.Unary one.Not) vs)) (λ v w. not_well v (as_bool v w)) vs h
row_well _ _ _ is.int_of_int vs h = with_one ty.Int (λ vs. Of ty.Int (op_value (op.Unary one.Int) vs)) (λ v w. int_int_well v (as_int v w)) vs h
row_well _ _ _ is.int_of_bool vs h = with_one ty.Bool (λ vs. Of ty.Int (op_value (op.Unary one.Int) vs)) (λ v w. int_bool_well v (as_bool v w)) vs h
row_well _ _ _ is.int_of_char vs h = with_one ty.Char (λ vs. Of ty.Int (op_value (op.Unary one.Int) vs)) (λ v w. int_char_well v (as_char v w)) vs h
row_well _ _ _ is.bool_of_bool vs h = with_one ty.Bool (λ vs. Of ty.Bool (op_value (op.Unary one.Bool) vs)) (λ v w. bool_bool_well v (as_bool v w)) vs h
row_well _ _ _ is.bool_of_int vs h = with_one ty.Int (λ vs. Of ty.Bool (op_value (op.Unary one.Bool) vs)) (λ v w. bool_int_well v (as_int v w)) vs h
row_well _ _ _ is.char_of_char vs h = with_one ty.Char (λ vs. Of ty.Char (op_value (op.Unary one.Char) vs)) (λ v w. char_char_well v (as_char v w)) vs h
row_well _ _ _ is.char_of_int vs h = with_one ty.Int (λ vs. Of ty.Char (op_value (op.Unary one.Char) vs)) (λ v w. char_int_well v (as_int v w)) vs h
row_well _ _ _ (is.is_error a) vs h = with_one a (λ vs. Of ty.Bool (op_value (op.Unary one.IsError) vs)) (λ v w. is_error_well v) vs h
row_well _ _ _ (is.arithmetic f i) vs h = with_two ty.Int ty.Int (λ vs. Of ty.Int (op_value (op.Binary f) vs)) (λ v w k l. arithmetic_well f i v w (as_int v k) (as_int w l)) vs h
row_well _ _ _ is.either vs h = with_two ty.Bool ty.Bool (λ vs. Of ty.Bool (op_value (op.Binary two.Plus) vs)) (λ v w k l. either_well v w (as_bool v k) (as_bool w l)) vs h
row_well _ _ _ is.both vs h = with_two ty.Bool ty.Bool (λ vs. Of ty.Bool (op_value (op.Binary two.Times) vs)) (λ v w k l. both_well v w (as_bool v k) (as_bool w l)) vs h
row_well _ _ _ (is.equality f a i s) vs h = with_two a a (λ vs. Of ty.Bool (op_value (op.Binary f) vs)) (λ v w k l. equality_well f a i s v w k l) vs h
row_well _ _ _ (is.order f a i s) vs h = with_two a a (λ vs. Of ty.Bool (op_value (op.Binary f) vs)) (λ v w k l. order_well f a i s v w k l) vs h
row_well _ _ _ (is.swapped f a i s) vs h = with_two a a (λ vs. Of ty.Bool (op_value (op.Swapped f) vs)) (λ v w k l. order_well f a i s w v l k) vs h
row_well _ _ _ (is.an_error a) vs h = of_error a cause.Explicit
row_well _ _ _ (is.empty_array a) vs h = with_none (λ vs. Of (ty.Arr a) (op_value op.EmptyArray vs)) (of_array a (pos 1) [] refl) vs h
row_well _ _ _ (is.array a tys s) [] h = absurd h
row_well _ _ _ (is.array a tys s) (v ∷ vs) h = array_well a tys v vs s (as_int v h.0) h.1
row_well _ _ _ (is.stream a tys s) vs h = of_stream_val a vs (of_all a tys vs s h)
row_well _ _ _ (is.fill a) vs h = with_three ty.Int ty.Int a (λ vs. Of (ty.Arr a) (op_value op.Fill vs)) (λ v w x k l m. fill_well a v w x (as_int v k) (as_int w l) m) vs h
row_well _ _ _ (is.element a) vs h = with_two (ty.Arr a) ty.Int (λ vs. Of a (op_value op.Element vs)) (λ v w k l. element_well a v w (as_arr a v k) (as_int w l)) vs h
row_well _ _ _ (is.update a) vs h = with_three (ty.Arr a) ty.Int a (λ vs. Of (ty.Arr a) (op_value op.Update vs)) (λ v w x k l m. update_well a v w x (as_arr a v k) (as_int w l) m) vs h
row_well _ _ _ (is.add_high a) vs h = with_two (ty.Arr a) a (λ vs. Of (ty.Arr a) (op_value op.AddHigh vs)) (λ v w k l. add_high_well a v w (as_arr a v k) l) vs h
row_well _ _ _ (is.append a) vs h = with_two (ty.Stream a) a (λ vs. Of (ty.Stream a) (op_value op.AddHigh vs)) (λ v w k l. append_well a v w (as_stream a v k) l) vs h
row_well _ _ _ (is.add_low a) vs h = with_two (ty.Arr a) a (λ vs. Of (ty.Arr a) (op_value op.AddLow vs)) (λ v w k l. add_low_well a v w (as_arr a v k) l) vs h
row_well _ _ _ (is.remove_high a) vs h = with_one (ty.Arr a) (λ vs. Of (ty.Arr a) (op_value op.RemoveHigh vs)) (λ v k. remove_high_well a v (as_arr a v k)) vs h
row_well _ _ _ (is.remove_low a) vs h = with_one (ty.Arr a) (λ vs. Of (ty.Arr a) (op_value op.RemoveLow vs)) (λ v k. remove_low_well a v (as_arr a v k)) vs h
row_well _ _ _ (is.set_low a) vs h = with_two (ty.Arr a) ty.Int (λ vs. Of (ty.Arr a) (op_value op.SetLow vs)) (λ v w k l. set_low_well a v w (as_arr a v k) (as_int w l)) vs h
row_well _ _ _ (is.limit_low a) vs h = with_one (ty.Arr a) (λ vs. Of ty.Int (op_value op.LimitLow vs)) (λ v k. limit_low_well a v (as_arr a v k)) vs h
row_well _ _ _ (is.first a) vs h = with_one (ty.Stream a) (λ vs. Of a (op_value op.First vs)) (λ v k. first_well a v (as_stream a v k)) vs h
row_well _ _ _ (is.is_empty a) vs h = with_one (ty.Stream a) (λ vs. Of ty.Bool (op_value op.IsEmpty vs)) (λ v k. is_empty_well a v (as_stream a v k)) vs h
row_well _ _ _ (is.is_empty_array a) vs h = with_one (ty.Arr a) (λ vs. Of ty.Bool (op_value op.IsEmpty vs)) (λ v k. is_empty_array_well a v (as_arr a v k)) vs h
row_well _ _ _ (is.is_tag ms tag m e) vs h = with_one (ty.Uni ms) (λ vs. Of ty.Bool (op_value (op.IsTag tag) vs)) (λ v k. is_tag_well ms tag v (as_uni ms v k)) vs h
row_well _ _ _ (is.union ms tag m e) vs h = with_one m.1 (λ vs. Of (ty.Uni ms) (op_value (op.Union tag) vs)) (λ v k. union_well ms tag m v e k) vs h
row_well _ _ _ (is.a_record ms few) vs h = record_well ms vs few h
row_well _ _ _ (is.field ms place m e) vs h = with_one (ty.Rec ms) (λ vs. Of m.1 (op_value (op.Field place) vs)) (λ v k. field_well ms place m v e (as_rec ms v k)) vs h
row_well _ _ _ (is.adjust a) vs h = with_three (ty.Arr a) ty.Int ty.Int (λ vs. Of (ty.Arr a) (op_value op.Adjust vs)) (λ v w x k l m. adjust_well a v w x (as_arr a v k) (as_int w l) (as_int x m)) vs h
row_well _ _ _ (is.limit_high a) vs h = with_one (ty.Arr a) (λ vs. Of ty.Int (op_value op.LimitHigh vs)) (λ v k. limit_high_well a v (as_arr a v k)) vs h
row_well _ _ _ (is.size a) vs h = with_one (ty.Arr a) (λ vs. Of ty.Int (op_value op.Size vs)) (λ v k. size_well a v (as_arr a v k)) vs h
row_well _ _ _ (is.length_of a) vs h = with_one (ty.Stream a) (λ vs. Of ty.Int (op_value op.Size vs)) (λ v k. length_well a v (as_stream a v k)) vs h
row_well _ _ _ (is.rest a) vs h = with_one (ty.Stream a) (λ vs. Of (ty.Stream a) (op_value op.Rest vs)) (λ v k. rest_well a v (as_stream a v k)) vs h
row_well _ _ _ (is.catenate_arrays a tys s) [] h = absurd h
row_well _ _ _ (is.catenate_arrays a tys s) (v ∷ vs) h = arrays_well a v tys vs (as_arr a v h.0) s h.1
row_well _ _ _ (is.catenate_streams a tys s) [] h = absurd h
row_well _ _ _ (is.catenate_streams a tys s) (v ∷ vs) h = streams_well a v tys vs (as_stream a v h.0) s h.1
row_well _ _ _ (is.change ms places tys s) [] h = absurd h
row_well _ _ _ (is.change ms places tys s) (v ∷ vs) h = change_well ms places tys v vs s (as_rec ms v h.0) h.1
