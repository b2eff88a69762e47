use Rattle.std.proofs.Common.{arith, sym, ◌∙◌, drop}
use Rattle.value_names.proofs.Steps.{all_defined}
use Rattle.value_names.proofs.in_force.InForce.define_all.Goals as goal

pub returns-else-place-types : goal.returns-else-place-types
returns-else-place-types c =
    sym (all_defined (drop c.loop-place.place c.args.names.now) c.args.types.now c.loop-place.place c.loop-place.self (omega arith)) ∙ c.loop-place.invariant.rest
