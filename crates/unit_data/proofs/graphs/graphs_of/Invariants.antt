use Rattle.std.proofs.Common.{length}
use Rattle.unit_data.proofs.EachGraph.{AreGraphsDone}
use Rattle.unit_data.proofs.graphs.graphs_of.Given as goal

abbrev pub invariant-loop-order : goal.invariant-loop-order
invariant-loop-order l = AreGraphsDone l.unit l.fn.orders.items (length l.yielded) l.made.graphs l.made.literals l.made.marks
