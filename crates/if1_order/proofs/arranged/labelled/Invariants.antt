use Rattle.std.proofs.Common.{◌≡◌, map, take, slice_index}
use Rattle.if1_order.proofs.arranged.labelled.Given as goal

abbrev pub invariant-loop-place : goal.invariant-loop-place
invariant-loop-place l = l.list ≡ map (slice_index l.labels) (take l.place-index l.places)
