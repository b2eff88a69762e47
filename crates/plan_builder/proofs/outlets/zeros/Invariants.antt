use Rattle.std.proofs.Common.{◌≡◌, length}
use Rattle.plan_builder.proofs.outlets.zeros.Given as goal

abbrev pub invariant-loop-place : goal.invariant-loop-place
invariant-loop-place l = length l.list ≡ l.place
