use Rattle.std.proofs.Common.{◌≡◌, ◌≢◌, ℕ, ◌≤◌}
use Rattle.std.specs.Vec.{vec_len}
use denote.RawPtr.{Ptr}
use Rattle.agg_pool.specs.Pools.{entry_at}
use Rattle.test_pool.specs.Shares.{room_at, AreShares, number_at}
use Rattle.test_pool.proofs.Ones.{back_from}
use Rattle.test_pool.proofs.sharing.join_all.Given as goal

-- the last segments are back, and written
abbrev pub invariant-loop-part : goal.invariant-loop-part
invariant-loop-part l = ((start : Ptr) × (entry_at l.pool l.fn.key.number ≡ room_at start (back_from (vec_len l.parts) (vec_len l.initial.parts))) × AreShares l.fn.key.number start number_at l.parts.items)
    × (vec_len l.parts ≤ vec_len l.initial.parts) × ((m : ℕ) → m ≢ l.fn.key.number → entry_at l.pool m ≡ entry_at l.initial.pool m)

abbrev pub decreases-loop-part : goal.decreases-loop-part
decreases-loop-part l = goal.left-loop-part l
