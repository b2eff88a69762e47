use Rattle.std.proofs.Common.{◌≡◌, ◌≤◌, ◌+◌, ◌-◌, ℕ, length}
use Rattle.agg_pool.specs.Tables.{used}
use Rattle.agg_pool.specs.Pools.{entry_at}
use Rattle.agg_pool.proofs.pool.Pool.reserve.Given as goal

-- what was promised stays so, and where the places there are suffice, none is added
abbrev pub invariant-loop-self : goal.invariant-loop-self
invariant-loop-self l = (l.fn.self.spare ≤ l.self.spare) × ((number : ℕ) → entry_at l.self number ≡ entry_at l.fn.self number) × (used l.fn.self.entries + l.n ≤ length l.fn.self.entries → l.self.entries ≡ l.fn.self.entries)

abbrev pub decreases-loop-self : goal.decreases-loop-self
decreases-loop-self l = l.n - l.self.spare
