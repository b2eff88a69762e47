use Rattle.std.proofs.Common.{◌<◌, ℕ, slice_index_or}
use Rattle.if1_order.specs.Walks.{feeders_of}
use Rattle.if1_reach.specs.Searches.{IsSearch, Adds, HasMet}
use Rattle.if1_reach.proofs.search.meet_all.Given as goal

abbrev pub invariant-loop-feeder : goal.invariant-loop-feeder
invariant-loop-feeder l =
    IsSearch l.lists l.to l.search × Adds l.fn.search l.search × ((k : ℕ) → k < l.feeder-index → HasMet l.search (slice_index_or (feeders_of l.lists l.at) k 0))
