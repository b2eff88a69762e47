use Rattle.std.proofs.Common.{◌≡◌}
use Rattle.std.specs.Prelude.{All}
use Rattle.std.specs.List.Sorted.{IsStrictlyIncreasing}
use Rattle.if1_read.specs.Marks.{labels_in}
use Rattle.if1_read.specs.Spread.{LeadsTo}
use Rattle.if1_read.proofs.reals.holders.Given as goal

abbrev pub invariant-loop-place : goal.invariant-loop-place
invariant-loop-place l = l.labels ≡ labels_in l.types → IsStrictlyIncreasing l.labels → All (LeadsTo l.types) l.pairs.items
