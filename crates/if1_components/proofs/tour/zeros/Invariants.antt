use Rattle.std.proofs.Common.{◌≡◌, replicate}
use Rattle.if1_components.proofs.tour.zeros.Given as goal

abbrev pub invariant-loop : goal.invariant-loop
invariant-loop l = l.zeros ≡ replicate l.counter 0
