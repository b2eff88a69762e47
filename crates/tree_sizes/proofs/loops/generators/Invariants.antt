use Rattle.std.proofs.Common.{◌≤◌, length, drop}
use Rattle.lowered_sizes.specs.Forms.{generators_sized}
use Rattle.tree_sizes.specs.Capped.{KeepsSizes}
use Rattle.tree_sizes.proofs.loops.generators.Given as goal

-- the generators from this place on have their sizes
abbrev pub invariant-loop-at : goal.invariant-loop-at
invariant-loop-at l = (l.at ≤ length l.sources) × KeepsSizes l.all (generators_sized (drop l.at l.sources))

abbrev pub decreases-loop-at : goal.decreases-loop-at
decreases-loop-at l = l.at
