use Rattle.std.proofs.Common.{arith, sym, ◌∙◌, drop}
use Rattle.sisal_check.proofs.Forms.{all_params}
use Rattle.sisal_check.proofs.bodies.parameters.Goals as goal

pub returns-else-place-types : goal.returns-else-place-types
returns-else-place-types c =
    sym (all_params (drop c.loop-place.place c.args.xs.now) c.args.types.now c.loop-place.place c.loop-place.names (omega arith)) ∙ c.loop-place.invariant.rest
