use Rattle.std.proofs.Common.{drop}
use Rattle.sequential_loops.specs.Putting.{AreMovedOnce}
use Rattle.sequential_loops.proofs.once.are_moved_once.Given as goal

-- whether it holds of what is left decides
abbrev pub invariant-loop-place : goal.invariant-loop-place
invariant-loop-place l = AreMovedOnce (drop l.place l.collects) → AreMovedOnce l.collects
