use Rattle.std.proofs.Common.{take}
use Rattle.mark_check.specs.Graphs.{AreUntaken}
use Rattle.mark_check.proofs.marks.take_nothing.Given as goal

abbrev pub invariant-loop-graph : goal.invariant-loop-graph
invariant-loop-graph l = AreUntaken (take l.graph-index l.graphs)
