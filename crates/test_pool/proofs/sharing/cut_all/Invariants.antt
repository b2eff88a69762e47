use Rattle.std.proofs.Common.{◌≡◌, ◌≢◌, ℕ, ◌≤◌}
use Rattle.std.specs.Vec.{vec_len, vec_capacity}
use denote.RawPtr.{Ptr}
use Rattle.segment.specs.Places.{unwritten}
use Rattle.agg_pool.specs.Pools.{entry_at}
use Rattle.test_pool.specs.Shares.{room_at, AreShares}
use Rattle.test_pool.proofs.Ones.{cut_to}
use Rattle.test_pool.proofs.sharing.cut_all.Given as goal

-- so many segments are cut, one for each place
abbrev pub invariant-loop-i : goal.invariant-loop-i
invariant-loop-i l = ((start : Ptr) × (entry_at l.pool l.key.number ≡ room_at start (cut_to l.i l.n)) × AreShares l.key.number start (λ _. unwritten) l.parts.items)
    × (vec_len l.parts ≡ l.i) × (l.n ≤ vec_capacity l.parts) × ((m : ℕ) → m ≢ l.key.number → entry_at l.pool m ≡ entry_at l.initial.pool m)
