use Rattle.std.proofs.Common.{◌≡◌, ◌<◌, ℕ, length, slice_index}
use Rattle.take_marks.proofs.check.do_stand.Given as goal

abbrev pub invariant-loop-place : goal.invariant-loop-place
invariant-loop-place l = (t : ℕ) → t < l.place → (slice_index l.ranks t < length l.order) × (slice_index l.order (slice_index l.ranks t) ≡ t)
