use Rattle.std.proofs.Common.{◌≡◌, replicate}
use Rattle.take_marks.proofs.graph.no_weights.Given as goal

abbrev pub invariant-loop : goal.invariant-loop
invariant-loop l = l.weights ≡ replicate l.counter 0
