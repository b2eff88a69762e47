use Rattle.std.proofs.Common.{◌≡◌, map, take}
use Rattle.lowering.specs.Operations.{wire_at}
use Rattle.lower_exprs.proofs.turns.columns.Given as goal

abbrev pub invariant-loop-at : goal.invariant-loop-at
invariant-loop-at l = l.wires ≡ map (wire_at l.all) (take l.at l.places)
