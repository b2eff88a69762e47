use Rattle.if1_reach.proofs.Ranking.{AreSet}
use Rattle.if1_reach.proofs.ranks.ranks_in.Given as goal

abbrev pub invariant-loop-rank : goal.invariant-loop-rank
invariant-loop-rank l = AreSet l.order l.ranks l.places l.rank
