use Rattle.std.proofs.Common.{◌≡◌, map, take}
use Rattle.if1_types.specs.Parameters.{parameter}
use Rattle.if1_types.proofs.params.with_numbers.Given as goal

abbrev pub invariant-loop-label : goal.invariant-loop-label
invariant-loop-label l = l.parameters ≡ map (parameter l.sorts) (take l.label-index l.labels)
