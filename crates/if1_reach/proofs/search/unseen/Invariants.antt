use Rattle.std.proofs.Common.{◌≡◌, replicate, false}
use Rattle.if1_reach.proofs.search.unseen.Given as goal

abbrev pub invariant-loop : goal.invariant-loop
invariant-loop l = l.seen ≡ replicate l.counter false
