use Rattle.std.proofs.Common.{◌≡◌, ◌++◌, length}
use Rattle.lowering.specs.Operations.{reversed}
use Rattle.lower_nodes.proofs.wiring.reversed.Given as goal

abbrev pub invariant-loop-w : goal.invariant-loop-w
invariant-loop-w l = l.turned ++ reversed l.left ≡ reversed l.initial.left

abbrev pub decreases-loop-w : goal.decreases-loop-w
decreases-loop-w l = length l.left
