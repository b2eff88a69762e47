use Rattle.std.proofs.Common.{ℕ, ◌<◌, slice_index}
use Rattle.if1_order.specs.Walks.{Leads}
use Rattle.take_marks.proofs.places.blocking.Given as goal

abbrev pub invariant-loop-place : goal.invariant-loop-place
invariant-loop-place l = (k : ℕ) → k < l.place-index → ¬ Leads l.lists l.taker (slice_index l.places k)
