use Rattle.std.proofs.Common.{◌≡◌, ◌+◌, List, ◌∷◌, map, drop, refl, subst, ◌∙◌}
use Rattle.typed_tree.specs.declared.program.Function.{Function}
use Rattle.line_types.specs.Traces.{body_need}
use Rattle.unit_labels.proofs.Steps.{next, step-lines, step-table, step-within}
use Rattle.unit_labels.proofs.functions.enter_bodies.Goals as goal

pub loop-function-preserved : goal.loop-function-preserved
loop-function-preserved c =
    let p = c.args.program.now in
    let fs = p.functions in
    let i = c.loop-function.function-index in
    let f = c.function-item.result in
    let cons : drop i fs ≡ f ∷ drop (i + 1) fs =
    subst (λ (l : List Function). drop i l ≡ f ∷ drop (i + 1) l) c.as_slice-functions.ensures (next c.as_slice-functions.result.now i f c.loop-function-test.true c.function-item.is) in
    let old = c.loop-function.labels in
    let new = c.enter_body.new.labels in
    record {
      entered = c.in-Ok.ensures.entered;
      needs = step-lines p fs i f old.needs new.needs cons c.in-Ok.ensures.needs ∙ c.loop-function.invariant.needs;
      table = step-table (body_need p) (map (body_need p)) (λ g gs. refl) fs i f old.table new.table cons c.in-Ok.ensures.table ∙ c.loop-function.invariant.table;
      within = step-within (body_need p) (map (body_need p)) (λ g gs. refl) fs i f old.table new.table cons c.in-Ok.ensures.table c.in-Ok.ensures.entered.few ∙ c.loop-function.invariant.within;
    }
