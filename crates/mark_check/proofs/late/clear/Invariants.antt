use Rattle.mark_check.specs.Late.{AreCleared}
use Rattle.mark_check.proofs.late.clear.Given as goal

abbrev pub invariant-loop-rank : goal.invariant-loop-rank
invariant-loop-rank l = AreCleared l.order l.first l.rank l.fn.weights l.weights
