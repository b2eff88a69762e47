use Rattle.std.proofs.Common.{◌≡◌, ℕ, None}
use Rattle.agg_pool.specs.Pools.{entry_at}
use Rattle.bench_pool.proofs.rooms.gather_often.Given as goal

-- nothing is left in the pool
abbrev pub invariant-loop : goal.invariant-loop
invariant-loop l = (number : ℕ) → entry_at l.pool number ≡ None
