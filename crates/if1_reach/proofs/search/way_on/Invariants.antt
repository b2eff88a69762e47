use Rattle.std.proofs.Common.{◌-◌, length, slice_index_or}
use Rattle.if1_reach.specs.Searches.{IsWayOn, Follows}
use Rattle.if1_reach.proofs.search.way_on.Given as goal

abbrev pub invariant-loop-on : goal.invariant-loop-on
invariant-loop-on l =
    IsWayOn l.lists l.from (slice_index_or l.way (length l.way - 1) 0) l.way × Follows l.lists l.to l.search.met (slice_index_or l.way (length l.way - 1) 0) l.on

abbrev pub decreases-loop-on : goal.decreases-loop-on
decreases-loop-on l = l.on
