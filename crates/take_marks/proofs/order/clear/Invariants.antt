use Rattle.take_marks.specs.Standing.{AreCleared}
use Rattle.take_marks.proofs.order.clear.Given as goal

abbrev pub invariant-loop-rank : goal.invariant-loop-rank
invariant-loop-rank l = AreCleared l.order l.first l.rank l.fn.weights l.weights
