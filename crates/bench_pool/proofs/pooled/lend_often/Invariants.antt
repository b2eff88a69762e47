use Rattle.std.proofs.Common.{◌≡◌, ℕ}
use Rattle.agg_pool.specs.Pools.{entry_at, HoldsAnd, IsIdleIfAny}
use Rattle.bench_pool.proofs.pooled.lend_often.Given as goal

abbrev pub invariant-loop : goal.invariant-loop
invariant-loop l = HoldsAnd (entry_at l.pool l.key.number) (λ w. w.out ≡ 0) × ((number : ℕ) → IsIdleIfAny (entry_at l.pool number))
