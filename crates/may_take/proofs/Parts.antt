-- What the graphs of a node do with their inputs, one after another.
use Rattle.std.proofs.Common.{◌≡◌, ◌∙◌, ℕ, zero, suc, ◌+◌, ◌<◌, ◌≤◌, false, ◌&&◌, not, List, [], ◌∷◌, drop, length, get_or, slice_get, Some, None, refl, sym, ap, arith}
use Rattle.std.specs.List.{list_any}
use Rattle.if1_marks.specs.Given.{Inside, is_given_to_loop}
use Rattle.may_take.specs.declared.looking.Looked.{Looked}
use Rattle.may_take.specs.Ports.{has, inside_by}
use Rattle.may_take.specs.Around.{insides}

pub insides-from : (rs : List Looked) (k : ℕ) (r : Looked) → k < length rs → r ≡ get_or rs k r → drop k (insides rs) ≡ inside_by r.inputs ∷ drop (k + 1) (insides rs)
insides-from [] k r h is = absurd (omega (arith, h))
insides-from (x ∷ rs) zero r h is = ap (λ (y : Looked). inside_by y.inputs ∷ insides rs) (sym is)
insides-from (x ∷ rs) (suc k) r h is =
    insides-from rs k r (omega (arith, h)) is
    ∙ ap (λ i. inside_by r.inputs ∷ drop i (insides (x ∷ rs))) (let e : suc (k + 1) ≡ suc k + 1 = omega arith in e)

pub insides-end : (rs : List Looked) (k : ℕ) → length rs ≤ k → drop k (insides rs) ≡ []
insides-end [] zero h = refl
insides-end [] (suc k) h = refl
insides-end (x ∷ rs) zero h = absurd (omega (arith, h))
insides-end (x ∷ rs) (suc k) h = insides-end rs k (omega (arith, h))

pub loop-given : (rs : List Looked) (r : Looked) → Some r ≡ slice_get rs 0 → (port : ℕ) → (has r.inputs.given port && not (list_any (λ (g : Inside). g.is_used port) (drop 1 (insides rs)))) ≡ is_given_to_loop (insides rs) port
loop-given [] r e port = absurd cc
loop-given (x ∷ rs) r e port =
    let same : r ≡ x = cc in
    ap (λ (y : Looked). has y.inputs.given port && not (list_any (λ (g : Inside). g.is_used port) (insides rs))) same

pub none-given : (rs : List Looked) → None ≡ slice_get rs 0 → (port : ℕ) → is_given_to_loop (insides rs) port ≡ false
none-given [] e port = refl
none-given (x ∷ rs) e port = absurd cc
