use Rattle.std.proofs.Common.{◌≤◌, length}
use Rattle.if1_components.specs.Parts.{AreSoFar}
use Rattle.if1_components.proofs.parts.enter_by.Given as goal

abbrev pub invariant-loop-at : goal.invariant-loop-at
invariant-loop-at l = AreSoFar l.lists l.numbers × (l.at ≤ length l.order)

abbrev pub decreases-loop-at : goal.decreases-loop-at
decreases-loop-at l = l.at
