use Rattle.std.proofs.Common.{ℕ}
use Rattle.agg_pool.specs.Pools.{entry_at, IsIdleIfAny}
use Rattle.bench_pool.proofs.pooled.put_often.Given as goal

abbrev pub invariant-loop-i : goal.invariant-loop-i
invariant-loop-i l = (number : ℕ) → IsIdleIfAny (entry_at l.pool number)
