-- What a reduction is once an element, or another reduction, was added at its end.
use Rattle.std.proofs.Common.{◌≡◌, ◌+◌, Bool, true, false, ◌||◌, ℤ, pos, ◌+ℤ◌, ◌*ℤ◌, List, [], ◌∷◌, ◌++◌, Option, Some, None, refl, sym, ◌∙◌, ap, arith, append-nil}
use Rattle.std.specs.List.{list_any, flat_map}
use Rattle.std.specs.Int.{int_max, int_min}
use Rattle.std.proofs.Math.IntN.{*ℤ-one, one}
use Rattle.std.proofs.lemmas.Grind.{flat_map-append}
use Rattle.std.proofs.lemmas.Int.{ints}
use Rattle.std.proofs.lemmas.List.Concat.{flat_map-cons}
use Rattle.std.proofs.lemmas.List.Folds.{list_any-append}
use Rattle.flow_value.specs.declared.cause.Cause.{Cause}
use Rattle.flow_value.specs.declared.value.Val.{Val}
use Rattle.loop_folds.specs.Clamped.{clamped, times}
use Rattle.loop_folds.specs.ClampedLaws.{clamped-mul}
use Rattle.loop_folds.specs.Elements.{or_else, error_of, is_no_integer, is_no_list}
use Rattle.loop_folds.specs.Folds.{term_of, factor_of, integer_of, one_of, elements_of, lower_bound_of, earlier_of, is_stream}
use Rattle.loop_folds.specs.Kept.{kept, take-take-append}
use Rattle.loop_folds.specs.Seen.{seen, seen_of, seen_joined}
use Rattle.loop_folds.specs.SeenLaws.{seen_of-append}
use Rattle.loop_folds.specs.SumState as sum
use Rattle.loop_folds.specs.ProductState as product
use Rattle.loop_folds.specs.ExtremeState as extreme
use Rattle.loop_folds.specs.GatherState as gather
use Rattle.loop_folds.specs.LastState as last
use Rattle.loop_folds.specs.CatenateState as catenate

joins : {M : Type 0} (of : List Val → M) (joined : M → M → M) → ((xs ys : List Val) → of (xs ++ ys) ≡ joined (of xs) (of ys)) → (s t n : M) (xs ys : List Val) → n ≡ joined s t → s ≡ of xs → t ≡ of ys → n ≡ of (xs ++ ys)
joins of joined append s t n xs ys e p q = e ∙ (λ i. joined (p i) (q i)) ∙ sym (append xs ys)

or_else-none : (c : Option Cause) → c ≡ or_else c None
or_else-none None = refl
or_else-none (Some c) = refl

or-false : (b : Bool) → b ≡ (b || false)
or-false true = refl
or-false false = refl

list_any-one : (p : Val → Bool) (v : Val) → p v ≡ list_any p (v ∷ [])
list_any-one p v = or-false (p v)

seen_of-one : (p : Val → Bool) (v : Val) → seen 1 (error_of v) (p v) ≡ seen_of p (v ∷ [])
seen_of-one p v = λ i. seen 1 (or_else-none (error_of v) i) (list_any-one p v i)

pub sum_joins : (s t n : sum.SumState) (xs ys : List Val) → n ≡ sum.joined_state s t → s ≡ sum.state_of xs → t ≡ sum.state_of ys → n ≡ sum.state_of (xs ++ ys)
sum_joins = joins sum.state_of sum.joined_state sum.state_of-append

-- what one integer is seen as
abbrev one_sum : Val → sum.SumState
one_sum v = sum.sum_state (seen 1 (error_of v) (is_no_integer v)) (term_of v)

one_sum-is : (v : Val) → one_sum v ≡ sum.state_of (v ∷ [])
one_sum-is v =
    let alone : term_of v ≡ term_of v +ℤ pos 0 = omega (arith, ints) in
    λ i. sum.sum_state (seen_of-one is_no_integer v i) (alone i)

pub sum_puts : (s n : sum.SumState) (xs : List Val) (v : Val) → n ≡ sum.joined_state s (one_sum v) → s ≡ sum.state_of xs → n ≡ sum.state_of (xs ++ v ∷ [])
sum_puts s n xs v e p = sum_joins s (one_sum v) n xs (v ∷ []) e p (one_sum-is v)

pub product_joins : (s t n : product.ProductState) (xs ys : List Val) → n ≡ product.joined_state s t → s ≡ product.state_of xs → t ≡ product.state_of ys → n ≡ product.state_of (xs ++ ys)
product_joins = joins product.state_of product.joined_state product.state_of-append

abbrev one_product : Val → product.ProductState
one_product v = product.product_state (seen 1 (error_of v) (is_no_integer v)) (clamped (factor_of v))

one-factor : (z : ℤ) → z ≡ z *ℤ pos 1
unfolding one
one-factor z = sym (*ℤ-one z)

one_product-is : (v : Val) → one_product v ≡ product.state_of (v ∷ [])
one_product-is v = λ i. product.product_state (seen_of-one is_no_integer v i) (clamped (one-factor (factor_of v) i))

pub product_puts : (s n : product.ProductState) (xs : List Val) (v : Val) → n ≡ product.joined_state s (one_product v) → s ≡ product.state_of xs → n ≡ product.state_of (xs ++ v ∷ [])
product_puts s n xs v e p = product_joins s (one_product v) n xs (v ∷ []) e p (one_product-is v)

abbrev one_extreme : Val → extreme.ExtremeState
one_extreme v = extreme.extreme_state (seen 1 (error_of v) (is_no_integer v)) (integer_of v)

one_of-none : (f : ℤ → ℤ → ℤ) (a : Option ℤ) → a ≡ one_of f a None
one_of-none f None = refl
one_of-none f (Some n) = refl

one_extreme-is : (f : ℤ → ℤ → ℤ) (v : Val) → one_extreme v ≡ extreme.state_of f (v ∷ [])
one_extreme-is f v = λ i. extreme.extreme_state (seen_of-one is_no_integer v i) (one_of-none f (integer_of v) i)

pub least_joins : (s t n : extreme.ExtremeState) (xs ys : List Val) → n ≡ extreme.joined_state int_min s t → s ≡ extreme.state_of int_min xs → t ≡ extreme.state_of int_min ys → n ≡ extreme.state_of int_min (xs ++ ys)
least_joins = joins (extreme.state_of int_min) (extreme.joined_state int_min) extreme.least_append

pub least_puts : (s n : extreme.ExtremeState) (xs : List Val) (v : Val) → n ≡ extreme.joined_state int_min s (one_extreme v) → s ≡ extreme.state_of int_min xs → n ≡ extreme.state_of int_min (xs ++ v ∷ [])
least_puts s n xs v e p = least_joins s (one_extreme v) n xs (v ∷ []) e p (one_extreme-is int_min v)

pub greatest_joins : (s t n : extreme.ExtremeState) (xs ys : List Val) → n ≡ extreme.joined_state int_max s t → s ≡ extreme.state_of int_max xs → t ≡ extreme.state_of int_max ys → n ≡ extreme.state_of int_max (xs ++ ys)
greatest_joins = joins (extreme.state_of int_max) (extreme.joined_state int_max) extreme.greatest_append

pub greatest_puts : (s n : extreme.ExtremeState) (xs : List Val) (v : Val) → n ≡ extreme.joined_state int_max s (one_extreme v) → s ≡ extreme.state_of int_max xs → n ≡ extreme.state_of int_max (xs ++ v ∷ [])
greatest_puts s n xs v e p = greatest_joins s (one_extreme v) n xs (v ∷ []) e p (one_extreme-is int_max v)

pub gather_joins : (s t n : gather.GatherState) (xs ys : List Val) → n ≡ gather.joined_state s t → s ≡ gather.state_of xs → t ≡ gather.state_of ys → n ≡ gather.state_of (xs ++ ys)
gather_joins = joins gather.state_of gather.joined_state gather.state_of-append

pub gather_puts : (s n : gather.GatherState) (xs : List Val) (v : Val) → n ≡ gather.joined_state s (gather.gathered 1 (v ∷ [])) → s ≡ gather.state_of xs → n ≡ gather.state_of (xs ++ v ∷ [])
gather_puts s n xs v e p = gather_joins s (gather.gathered 1 (v ∷ [])) n xs (v ∷ []) e p refl

pub last_joins : (s t n : last.LastState) (xs ys : List Val) → n ≡ last.joined_state s t → s ≡ last.state_of xs → t ≡ last.state_of ys → n ≡ last.state_of (xs ++ ys)
last_joins = joins last.state_of last.joined_state last.state_of-append

pub last_puts : (s n : last.LastState) (xs : List Val) (v : Val) → n ≡ last.joined_state s (last.last_state 1 (Some v)) → s ≡ last.state_of xs → n ≡ last.state_of (xs ++ v ∷ [])
last_puts s n xs v e p = last_joins s (last.last_state 1 (Some v)) n xs (v ∷ []) e p refl

pub catenate_joins : (s t n : catenate.CatenateState) (xs ys : List Val) → n ≡ catenate.joined_state s t → s ≡ catenate.state_of xs → t ≡ catenate.state_of ys → n ≡ catenate.state_of (xs ++ ys)
catenate_joins = joins catenate.state_of catenate.joined_state catenate.state_of-append

-- what is kept once the elements of a value were added
abbrev pub added : catenate.CatenateState → Val → catenate.CatenateState
added s v =
    catenate.catenate_state (seen_joined s.seen (seen 1 (error_of v) (is_no_list v))) (earlier_of s.lo (lower_bound_of v)) (s.streams || is_stream v) (kept (s.items ++ elements_of v))

earlier_of-none : (a : Option ℤ) → a ≡ earlier_of a None
earlier_of-none None = refl
earlier_of-none (Some n) = refl

elements-one : (v : Val) → flat_map elements_of (v ∷ []) ≡ elements_of v
elements-one v = flat_map-cons elements_of v [] ∙ append-nil (elements_of v)

elements-added : (xs : List Val) (v : Val) → kept (kept (flat_map elements_of xs) ++ elements_of v) ≡ kept (flat_map elements_of (xs ++ v ∷ []))
elements-added xs v =
    take-take-append 4194305 (flat_map elements_of xs) (elements_of v)
    ∙ sym (ap kept (flat_map-append elements_of xs (v ∷ []) ∙ ap (λ vs. flat_map elements_of xs ++ vs) (elements-one v)))

added-is : (xs : List Val) (v : Val) → added (catenate.state_of xs) v ≡ catenate.state_of (xs ++ v ∷ [])
added-is xs v =
    let seen_is = ap (λ one. seen_joined (seen_of is_no_list xs) one) (seen_of-one is_no_list v) ∙ sym (seen_of-append is_no_list xs (v ∷ [])) in
    let bound_is = ap (λ one. earlier_of (catenate.state_of xs).lo one) (earlier_of-none (lower_bound_of v)) ∙ sym (catenate.first_bound-append xs (v ∷ [])) in
    let streams_is = ap (λ one. list_any is_stream xs || one) (list_any-one is_stream v) ∙ sym (list_any-append is_stream xs (v ∷ [])) in
    λ i. catenate.catenate_state (seen_is i) (bound_is i) (streams_is i) (elements-added xs v i)

pub catenate_puts : (s n : catenate.CatenateState) (xs : List Val) (v : Val) → n ≡ added s v → s ≡ catenate.state_of xs → n ≡ catenate.state_of (xs ++ v ∷ [])
catenate_puts s n xs v e p = e ∙ ap (λ t. added t v) p ∙ added-is xs v
