use Rattle.if1_reach.proofs.Sinking.{AreSunk}
use Rattle.if1_reach.proofs.least.sink.Given as goal

abbrev pub invariant-loop-rank : goal.invariant-loop-rank
invariant-loop-rank l = AreSunk l.lists l.ranks.ranks l.first l.end l.fn.weights l.rank l.weights

abbrev pub decreases-loop-rank : goal.decreases-loop-rank
decreases-loop-rank l = l.rank
