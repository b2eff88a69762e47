use Rattle.std.proofs.Common.{ℕ, slice_index_or, None}
use Rattle.agg_pool.specs.Pools.{IsIdleIfAny}
use Rattle.agg_pool.proofs.pool.Pool.end.Given as goal

-- what is left is idle
abbrev pub invariant-loop-slot : goal.invariant-loop-slot
invariant-loop-slot l = (number : ℕ) → IsIdleIfAny (slice_index_or l.entries.items number None)

abbrev pub decreases-loop-slot : goal.decreases-loop-slot
decreases-loop-slot l = goal.left-loop-slot l
