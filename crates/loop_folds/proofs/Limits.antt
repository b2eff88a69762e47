-- The value of what was kept is that of all elements, and what is kept grows with them.
use Rattle.std.proofs.Common.{◌≡◌, ◌≤◌, ◌<◌, Bool, true, false, ℤ, if◌then◌else◌, List, [], ◌∷◌, ◌++◌, length, refl, sym, ◌∙◌, ap, arith}
use Rattle.std.proofs.lemmas.Bool.{leb-true, leb-false}
use Rattle.std.proofs.lemmas.List.{take_all, length-take-le}
use Rattle.flow_value.specs.Aggregates.{in_bounds_val, array_val, stream_val}
use Rattle.flow_value.specs.Bounds.{is_few}
use Rattle.flow_value.specs.declared.cause.Cause.TheVariants as cause
use Rattle.flow_value.specs.declared.value.Val.{Val}
use Rattle.flow_value.specs.declared.value.Val.TheVariants as val
use Rattle.loop_folds.specs.Kept.{kept, take-take-append}

-- a value of few enough elements, or `error(size)`
abbrev if_few : (List Val → Val) → List Val → Val
if_few f vs = if is_few (length vs) then f vs else val.Err cause.Size

few-kept : (vs : List Val) → 4194304 < length vs → is_few (length (kept vs)) ≡ false
few-kept vs many =
    let most : length (kept vs) ≡ 4194305 = length-take-le 4194305 vs (omega arith) in
    ap is_few most

if_few-by : (f : List Val → Val) (vs : List Val) (b : Bool) → is_few (length vs) ≡ b → if_few f (kept vs) ≡ if_few f vs
if_few-by f vs true few =
    let short : length vs ≤ 4194304 = leb-true (length vs) 4194304 few in
    ap (if_few f) (take_all 4194305 vs (omega arith))
if_few-by f vs false many =
    ap (λ b. if b then f (kept vs) else val.Err cause.Size) (few-kept vs (leb-false (length vs) 4194304 many))
    ∙ sym (ap (λ b. if b then f vs else val.Err cause.Size) many)

pub array_done : (lo : ℤ) (items vs : List Val) (r : Val) → r ≡ array_val lo items → items ≡ kept vs → r ≡ array_val lo vs
array_done lo items vs r e p = e ∙ ap (array_val lo) p ∙ if_few-by (in_bounds_val lo) vs (is_few (length vs)) refl

pub stream_done : (items vs : List Val) (r : Val) → r ≡ stream_val items → items ≡ kept vs → r ≡ stream_val vs
stream_done items vs r e p = e ∙ ap stream_val p ∙ if_few-by val.Stream vs (is_few (length vs)) refl

pub kept-added : (items new vs : List Val) (v : Val) → new ≡ kept (items ++ v ∷ []) → items ≡ kept vs → new ≡ kept (vs ++ v ∷ [])
kept-added items new vs v e p = e ∙ ap (λ xs. kept (xs ++ v ∷ [])) p ∙ take-take-append 4194305 vs (v ∷ [])
