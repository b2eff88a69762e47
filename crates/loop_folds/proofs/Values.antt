-- The value of what was kept is that of the whole list.
use Rattle.std.proofs.Common.{◌≡◌, ◌≤◌, ◌<◌, Bool, true, false, nat_le, ℤ, pos, if◌then◌else◌, List, length, take, Option, Some, None, refl, sym, ◌∙◌, ap, arith, subst}
use Rattle.std.specs.List.{list_any, flat_map}
use Rattle.std.proofs.lemmas.Bool.{leb-true, leb-false, lt-leb}
use Rattle.std.proofs.lemmas.List.{take_all, length-take-le}
use Rattle.flow_value.specs.Aggregates.{in_bounds_val, array_val, stream_val}
use Rattle.flow_value.specs.Bounds.{is_few}
use Rattle.flow_value.specs.declared.cause.Cause.TheVariants as cause
use Rattle.flow_value.specs.declared.value.Val.{Val}
use Rattle.flow_value.specs.declared.value.Val.TheVariants as val
use Rattle.loop_folds.specs.Clamped.{fitted_clamped}
use Rattle.loop_folds.specs.ClampedLaws.{fitted_clamped-clamped}
use Rattle.loop_folds.specs.Elements.{checked, first_error, is_no_integer, is_no_list}
use Rattle.loop_folds.specs.Folds.{gather_fold, product_of, product_fold, elements_of, first_bound, is_stream, catenated, catenate_fold}
use Rattle.loop_folds.specs.Kept.{kept}
use Rattle.loop_folds.specs.ProductState as product
use Rattle.loop_folds.specs.GatherState as gather
use Rattle.loop_folds.specs.CatenateState as catenate

-- a value of few enough elements, or `error(size)`
abbrev if_few : (List Val → Val) → List Val → Val
if_few f vs = if is_few (length vs) then f vs else val.Err cause.Size

few-kept : (vs : List Val) → 4194304 < length vs → is_few (length (kept vs)) ≡ false
few-kept vs many =
    let most : length (kept vs) ≡ 4194305 = length-take-le 4194305 vs (omega arith) in
    ap is_few most

if_few-by : (f : List Val → Val) (vs : List Val) (b : Bool) → is_few (length vs) ≡ b → if_few f (kept vs) ≡ if_few f vs
if_few-by f vs true few =
    let short : length vs ≤ 4194304 = leb-true (length vs) 4194304 few in
    ap (if_few f) (take_all 4194305 vs (omega arith))
if_few-by f vs false many =
    ap (λ b. if b then f (kept vs) else val.Err cause.Size) (few-kept vs (leb-false (length vs) 4194304 many))
    ∙ sym (ap (λ b. if b then f vs else val.Err cause.Size) many)

array_val-kept : (lo : ℤ) (vs : List Val) → array_val lo (kept vs) ≡ array_val lo vs
array_val-kept lo vs = if_few-by (in_bounds_val lo) vs (is_few (length vs)) refl

stream_val-kept : (vs : List Val) → stream_val (kept vs) ≡ stream_val vs
stream_val-kept vs = if_few-by val.Stream vs (is_few (length vs)) refl

catenated-kept : (lo : Option ℤ) (streams : Bool) (vs : List Val) → catenated lo streams (kept vs) ≡ catenated lo streams vs
catenated-kept None false vs = array_val-kept (pos 1) vs
catenated-kept None true vs = stream_val-kept vs
catenated-kept (Some lo) false vs = array_val-kept lo vs
catenated-kept (Some lo) true vs = refl

pub gather_done : (g : gather.GatherState) (r : Val) (xs : List Val) → r ≡ array_val (pos 1) g.items → g ≡ gather.state_of xs → r ≡ gather_fold xs
gather_done g r xs e p = e ∙ ap (λ s. array_val (pos 1) s.items) p ∙ array_val-kept (pos 1) xs

pub product_done : (s : product.ProductState) (r : Val) (xs : List Val) → r ≡ checked s.seen.error s.seen.foreign (fitted_clamped s.factor) → s ≡ product.state_of xs → r ≡ product_fold xs
product_done s r xs e p =
    e ∙ ap (λ t. checked t.seen.error t.seen.foreign (fitted_clamped t.factor)) p
    ∙ ap (λ v. checked (first_error xs) (list_any is_no_integer xs) v) (fitted_clamped-clamped (product_of xs))

pub catenate_done : (s : catenate.CatenateState) (r : Val) (xs : List Val) → r ≡ checked s.seen.error s.seen.foreign (catenated s.lo s.streams s.items) → s ≡ catenate.state_of xs → r ≡ catenate_fold xs
catenate_done s r xs e p =
    e ∙ ap (λ t. checked t.seen.error t.seen.foreign (catenated t.lo t.streams t.items)) p
    ∙ ap (λ v. checked (first_error xs) (list_any is_no_list xs) v) (catenated-kept (first_bound xs) (list_any is_stream xs) (flat_map elements_of xs))
