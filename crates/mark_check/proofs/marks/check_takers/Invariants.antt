use Rattle.std.proofs.Common.{take, All}
use Rattle.if1_graph.specs.Units.{places}
use Rattle.mark_check.specs.Marks.{HasWrongTaker}
use Rattle.mark_check.proofs.marks.check_takers.Given as goal

abbrev pub invariant-loop-index : goal.invariant-loop-index
invariant-loop-index l = All (λ p. ¬ HasWrongTaker l.unit p) (take l.index (places l.unit))
