use Rattle.std.proofs.Common.{take, All}
use Rattle.if1_graph.specs.Units.{places}
use Rattle.mark_check.specs.Marks.{HasWrongEntry}
use Rattle.mark_check.proofs.marks.check_lists.Given as goal

abbrev pub invariant-loop-graph : goal.invariant-loop-graph
invariant-loop-graph l = All (λ p. ¬ HasWrongEntry p) (take l.graph-index (places l.unit))
