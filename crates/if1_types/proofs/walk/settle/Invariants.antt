use Rattle.std.proofs.Common.{◌≡◌, ℕ, ◌+◌, ◌<◌, false, length, if◌then◌else◌}
use Rattle.if1_types.specs.Shapes.{trees_in}
use Rattle.if1_types.specs.Finds.{unknown_in, IsSettled}
use Rattle.if1_types.specs.Steps.{Grows}
use Rattle.if1_types.proofs.walk.settle.Given as goal

abbrev pub invariant-loop-more : goal.invariant-loop-more
invariant-loop-more l = record {
  grows : Grows l.types l.fn.shapes l.shapes l.fn.found l.found;
  settled : l.more ≡ false → (p : ℕ) → p < length l.types → IsSettled (trees_in l.shapes) l.types l.found p;
}

abbrev pub decreases-loop-more : goal.decreases-loop-more
decreases-loop-more l = unknown_in l.found.parts + (if l.more then 1 else 0)
