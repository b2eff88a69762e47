use Rattle.std.proofs.Common.{◌<◌, take, slice_index, All}
use Rattle.take_marks.proofs.check.are_lower.Given as goal

abbrev pub invariant-loop-feeder : goal.invariant-loop-feeder
invariant-loop-feeder l = All (λ s. slice_index l.ranks s < l.rank) (take l.feeder-index l.feeders)
