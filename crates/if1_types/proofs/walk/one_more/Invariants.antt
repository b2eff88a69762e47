use Rattle.std.proofs.Common.{◌≡◌, ℕ, ◌<◌}
use Rattle.if1_types.specs.Shapes.{trees_in}
use Rattle.if1_types.specs.Finds.{IsSettled}
use Rattle.if1_types.proofs.walk.one_more.Given as goal

abbrev pub invariant-loop-place : goal.invariant-loop-place
invariant-loop-place l = record {
  shapes : l.shapes ≡ l.initial.shapes;
  found : l.found ≡ l.initial.found;
  settled : (p : ℕ) → p < l.place → IsSettled (trees_in l.shapes) l.types l.found p;
}
