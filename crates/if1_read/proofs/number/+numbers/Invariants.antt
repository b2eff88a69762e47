use Rattle.std.proofs.Common.{suc}
use Rattle.if1_read.proofs.Turns.{Numbered, NodesNumbered}
use Rattle.if1_read.proofs.number.+numbers.Given as goal

abbrev pub invariant-number_nodes-loop-node : goal.invariant-number_nodes-loop-node
invariant-number_nodes-loop-node l = NodesNumbered l.initial.node-items l.node-items l.node-index (suc l.before) (suc l.last)

abbrev pub invariant-number_parts-loop-graph : goal.invariant-number_parts-loop-graph
invariant-number_parts-loop-graph l = Numbered l.initial.graph-items l.graph-items l.graph-index (suc l.before) (suc l.last)
