use Rattle.std.proofs.Common.{arith, sym, ◌∙◌, drop}
use Rattle.value_names.proofs.Steps.{all_under_old}
use Rattle.value_names.proofs.in_force.InForce.bring_under_old.Goals as goal

pub returns-else-place-types : goal.returns-else-place-types
returns-else-place-types c =
    sym (all_under_old c.loop-place.level (drop c.loop-place.place c.args.names.now) c.args.types.now c.loop-place.place c.loop-place.self (omega arith))
    ∙ c.loop-place.invariant.rest
