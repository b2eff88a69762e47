use Rattle.std.proofs.Common.{◌≡◌, replicate}
use Rattle.value_ops.proofs.makers.copies.Given as goal

abbrev pub invariant-loop-made : goal.invariant-loop-made
invariant-loop-made l = l.items ≡ replicate l._made l.v
