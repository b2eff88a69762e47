use Rattle.std.proofs.Common.{◌≡◌, ◌<◌, ℕ, length, slice_index}
use Rattle.take_marks.proofs.check.are_ranked.Given as goal

abbrev pub invariant-loop-rank : goal.invariant-loop-rank
invariant-loop-rank l = (k : ℕ) → k < l.rank → (slice_index l.order k < length l.ranks) × (slice_index l.ranks (slice_index l.order k) ≡ k)
