use Rattle.std.proofs.Common.{◌∙◌}
use Rattle.sequential.proofs.giving.clear_each.Goals as goal

pub loop-place-preserved : goal.loop-place-preserved
loop-place-preserved c =
    let l = c.loop-place in
    record { low = c.vacate.ensures.low c.args.base l.auto.place ∙ l.invariant.low; size = c.vacate.ensures.size ∙ l.invariant.size }
