use Rattle.std.proofs.Common.{◌≡◌}
use Rattle.std.specs.Prelude.{List, All}
use Rattle.std.specs.List.Sorted.{IsStrictlyIncreasing}
use Rattle.if1_read.specs.Marks.{labels_in}
use Rattle.if1_read.specs.Spread.{KeepsMarks, IsRealAt, AreTrue}
use Rattle.if1_read.proofs.reals.spread.Given as goal

abbrev pub invariant-loop : goal.invariant-loop
invariant-loop l = record {
  keeps : KeepsMarks l.fn.marks l.marks;
  real : l.labels ≡ labels_in l.types → IsStrictlyIncreasing l.labels → AreTrue l.types l.fn.marks → AreTrue l.types l.marks;
  todo : l.labels ≡ labels_in l.types → IsStrictlyIncreasing l.labels → AreTrue l.types l.fn.marks → All (IsRealAt l.types) l.todo.items;
}
