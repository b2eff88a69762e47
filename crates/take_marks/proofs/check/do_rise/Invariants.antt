use Rattle.std.proofs.Common.{◌<◌, ℕ, slice_index, Contains}
use Rattle.if1_order.specs.Walks.{feeders_of}
use Rattle.take_marks.proofs.check.do_rise.Given as goal

abbrev pub invariant-loop-place : goal.invariant-loop-place
invariant-loop-place l = (s t : ℕ) → t < l.place → Contains (feeders_of l.lists t) s → slice_index l.ranks s < slice_index l.ranks t
