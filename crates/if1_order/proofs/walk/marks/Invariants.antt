use Rattle.std.proofs.Common.{◌≡◌, replicate}
use Rattle.if1_order.specs.declared.walk.Mark.TheVariants.{Fresh}
use Rattle.if1_order.proofs.walk.marks.Given as goal

abbrev pub invariant-loop : goal.invariant-loop
invariant-loop l = l.marks ≡ replicate l.counter Fresh
