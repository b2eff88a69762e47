-- The folds of a loop over its kept elements, in order, on exact whole numbers (SISAL Language
-- Reference Manual 1.2, the results of loops).
--
-- `sum`, `product`, `least`, `greatest` and `catenate` are strict: the first error among the
-- elements is the result, and else elements of a kind that the fold does not speak of give
-- `error(explicit)`.
use Rattle.std.specs.Prelude.{ℤ, pos, ◌+ℤ◌, ◌*ℤ◌, Bool, true, false, List, [], ◌∷◌, Option, Some, None}
use Rattle.std.specs.Int.{int_max, int_min}
use Rattle.std.specs.List.{list_any, flat_map}
use Rattle.flow_value.specs.declared.value.Val.{Val}
use Rattle.flow_value.specs.declared.value.Val.TheOpen.{Val-F}
use Rattle.flow_value.specs.declared.value.Val.TheVariants as val
use Rattle.flow_value.specs.declared.value.Val.TheViews.{out-Val}
use Rattle.flow_value.specs.declared.cause.Cause.TheVariants as cause
use Rattle.flow_value.specs.Aggregates.{array_val, stream_val}
use Rattle.flow_value.specs.Scalar.{fitted}
use Rattle.loop_folds.specs.Elements.{is_no_integer, is_no_list, strict_fold}

-- `array of` and `stream of`: the elements in order as an array, or `error(size)`
abbrev pub gather_fold : List Val → Val
gather_fold vs = array_val (pos 1) vs

-- the later of two elements
abbrev pub later_of : Option Val → Option Val → Option Val
later_of a None = a
later_of a (Some v) = Some v

abbrev pub last_of : List Val → Option Val
last_of [] = None
last_of (v ∷ vs) = later_of (Some v) (last_of vs)

abbrev pub or_empty : Option Val → Val
or_empty None = val.Err cause.Empty
or_empty (Some v) = v

-- `value of` without a reduction: the last element, an error too
abbrev pub last_fold : List Val → Val
last_fold vs = or_empty (last_of vs)

abbrev pub term_of : Val → ℤ
term_of (val.Int n) = n
term_of _ = pos 0

abbrev pub sum_of : List Val → ℤ
sum_of [] = pos 0
sum_of (v ∷ vs) = term_of v +ℤ sum_of vs

-- `value of sum`: of no elements it is 0
abbrev pub sum_fold : List Val → Val
sum_fold vs = strict_fold is_no_integer vs (fitted (sum_of vs))

abbrev pub factor_of : Val → ℤ
factor_of (val.Int n) = n
factor_of _ = pos 1

abbrev pub product_of : List Val → ℤ
product_of [] = pos 1
product_of (v ∷ vs) = factor_of v *ℤ product_of vs

-- `value of product`: of no elements it is 1
abbrev pub product_fold : List Val → Val
product_fold vs = strict_fold is_no_integer vs (fitted (product_of vs))

abbrev pub integer_of : Val → Option ℤ
integer_of (val.Int n) = Some n
integer_of _ = None

-- one of two integers, or the one that is there
abbrev pub one_of : (ℤ → ℤ → ℤ) → Option ℤ → Option ℤ → Option ℤ
one_of f None b = b
one_of f (Some m) None = Some m
one_of f (Some m) (Some n) = Some (f m n)

abbrev pub extreme_of : (ℤ → ℤ → ℤ) → List Val → Option ℤ
extreme_of f [] = None
extreme_of f (v ∷ vs) = one_of f (integer_of v) (extreme_of f vs)

abbrev pub found : Option ℤ → Val
found None = val.Err cause.Empty
found (Some n) = val.Int n

-- `value of least` and `value of greatest`: of no elements they are `error(empty)`
abbrev pub least_fold : List Val → Val
least_fold vs = strict_fold is_no_integer vs (found (extreme_of int_min vs))

abbrev pub greatest_fold : List Val → Val
greatest_fold vs = strict_fold is_no_integer vs (found (extreme_of int_max vs))

-- what an array or a stream holds, as one level of a value
abbrev pub elements_in : Val-F Val → List Val
elements_in (Val-F.Arr a) = a.items
elements_in (Val-F.Stream vs) = vs
elements_in _ = []

abbrev pub elements_of : Val → List Val
elements_of v = elements_in (out-Val v)

abbrev pub lower_bound_in : Val-F Val → Option ℤ
lower_bound_in (Val-F.Arr a) = Some a.lo
lower_bound_in _ = None

abbrev pub lower_bound_of : Val → Option ℤ
lower_bound_of v = lower_bound_in (out-Val v)

abbrev pub earlier_of : Option ℤ → Option ℤ → Option ℤ
earlier_of None b = b
earlier_of (Some m) b = Some m

-- the lower bound of the first array
abbrev pub first_bound : List Val → Option ℤ
first_bound [] = None
first_bound (v ∷ vs) = earlier_of (lower_bound_of v) (first_bound vs)

abbrev pub stream_in : Val-F Val → Bool
stream_in (Val-F.Stream vs) = true
stream_in _ = false

abbrev pub is_stream : Val → Bool
is_stream v = stream_in (out-Val v)

-- an array from the first array's lower bound, or a stream if no array is there; arrays and
-- streams are not joined
abbrev pub catenated : Option ℤ → Bool → List Val → Val
catenated None false vs = array_val (pos 1) vs
catenated None true vs = stream_val vs
catenated (Some lo) false vs = array_val lo vs
catenated (Some lo) true vs = val.Err cause.Explicit

-- `value of catenate`: the elements of the arrays or streams in order; of none it is the empty
-- array from 1
abbrev pub catenate_fold : List Val → Val
catenate_fold vs =
    strict_fold is_no_list vs (catenated (first_bound vs) (list_any is_stream vs) (flat_map elements_of vs))
