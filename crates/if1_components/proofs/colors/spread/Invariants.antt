use Rattle.std.proofs.Common.{◌≢◌, ◌-◌, slice_index}
use Rattle.if1_components.specs.Colors.{count_of, IsSpreading, AreDone}
use Rattle.if1_components.proofs.colors.spread.Given as goal

abbrev pub invariant-loop-at : goal.invariant-loop-at
invariant-loop-at l =
    IsSpreading l.lists l.root l.from l.to (count_of l.from l.fn.colors) l.fn.colors l.colors l.met × AreDone l.lists l.from l.colors l.met l.at × (slice_index l.colors l.root ≢ l.from)

abbrev pub decreases-loop-at : goal.decreases-loop-at
decreases-loop-at l = count_of l.from l.fn.colors - l.at
