use Rattle.std.proofs.Common.{◌≡◌}
use Rattle.std.specs.List.Sorted.{IsStrictlyIncreasing}
use Rattle.if1_read.specs.Marks.{labels_in}
use Rattle.if1_read.specs.Spread.{AreTrue}
use Rattle.if1_read.proofs.Spreading.{Turn}
use Rattle.if1_read.proofs.reals.holding_reals.Given as goal

-- each turn marks one more
abbrev pub invariant-loop : goal.invariant-loop
invariant-loop l = record {
  turn : Turn l.types l.marks l.counter;
  real : l.labels ≡ labels_in l.types → IsStrictlyIncreasing l.labels → AreTrue l.types l.marks;
}
