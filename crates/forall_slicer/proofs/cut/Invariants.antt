use Rattle.std.proofs.Common.{◌≡◌, map}
use Rattle.std.specs.List.{range_with_len}
use Rattle.forall_slicer.specs.Slices.{nth_slice}
use Rattle.forall_slicer.proofs.cut.Given as goal

-- the slices before slice k
abbrev pub invariant-loop-k : goal.invariant-loop-k
invariant-loop-k l = l.found ≡ map (nth_slice l.n l.count) (range_with_len 0 l.k)
