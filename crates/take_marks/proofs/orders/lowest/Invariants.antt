use Rattle.std.proofs.Common.{ℕ, ◌<◌, ◌≤◌, get_or, slice_index}
use Rattle.take_marks.proofs.orders.lowest.Given as goal

abbrev pub invariant-loop-place : goal.invariant-loop-place
invariant-loop-place l = record { own : l.least ≤ slice_index l.ranks l.taker; low : (k d : ℕ) → k < l.place-index → l.least ≤ slice_index l.ranks (get_or l.places k d) }
