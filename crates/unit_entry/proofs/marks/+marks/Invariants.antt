use Rattle.std.proofs.Common.{◌≡◌, drop}
use Rattle.std.specs.List.{list_any}
use Rattle.unit_entry.specs.Marks.{is_marked, is_marked_node}
use Rattle.unit_entry.proofs.marks.+marks.Given as goal

abbrev pub invariant-some_graphs-loop-graph : goal.invariant-some_graphs-loop-graph
invariant-some_graphs-loop-graph l = list_any is_marked l.graphs ≡ list_any is_marked (drop l.graph-index l.graphs)

abbrev pub invariant-some_nodes-loop-node : goal.invariant-some_nodes-loop-node
invariant-some_nodes-loop-node l = list_any is_marked_node l.nodes ≡ list_any is_marked_node (drop l.node-index l.nodes)
