use Rattle.std.proofs.Common.{◌-◌, length}
use Rattle.if1_reach.specs.Searches.{IsSearch, AreDone}
use Rattle.if1_reach.proofs.search.way.Given as goal

abbrev pub invariant-loop-at : goal.invariant-loop-at
invariant-loop-at l = IsSearch l.lists l.to l.search × AreDone l.lists l.to l.from l.search l.at

abbrev pub decreases-loop-at : goal.decreases-loop-at
decreases-loop-at l = length l.lists - l.at
