use Rattle.std.proofs.Common.{ℕ, ◌<◌, get_or, slice_index}
use Rattle.take_marks.proofs.order.are_before.Given as goal

abbrev pub invariant-loop-place : goal.invariant-loop-place
invariant-loop-place l = (k d : ℕ) → k < l.place-index → slice_index l.fn.ranks.ranks (get_or l.places k d) < slice_index l.fn.ranks.ranks l.taker
