use Rattle.std.proofs.Common.{◌≡◌}
use Rattle.lowering.specs.Operations.{absents}
use Rattle.lower_nodes.proofs.wiring.absents.Given as goal

abbrev pub invariant-loop-place : goal.invariant-loop-place
invariant-loop-place l = l.wires ≡ absents l.place
