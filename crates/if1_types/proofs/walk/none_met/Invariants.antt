use Rattle.std.proofs.Common.{◌≡◌, replicate, false}
use Rattle.if1_types.proofs.walk.none_met.Given as goal

abbrev pub invariant-loop : goal.invariant-loop
invariant-loop l = l.met ≡ replicate l.counter false
