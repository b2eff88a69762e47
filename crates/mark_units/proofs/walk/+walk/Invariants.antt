use Rattle.std.proofs.Common.{◌+◌, ◌*◌, map, length}
use Rattle.std.specs.Vec.Iter.{into_iter_items}
use Rattle.if1_graph.specs.declared.graph.Node.{out-Node}
use Rattle.if1_graph.specs.Units.{greatest, levels, level_below}
use Rattle.if1_order.proofs.Within.{node_levels}
use Rattle.mark_units.proofs.Turns.{PartsGoing, NodesGoing}
use Rattle.mark_units.proofs.walk.+walk.Given as goal

abbrev pub invariant-mark_nodes-loop-node : goal.invariant-mark_nodes-loop-node
invariant-mark_nodes-loop-node l = NodesGoing l.fn.nodes l.flags l.initial.pass l.marked (into_iter_items l.rest) l.pass

abbrev pub decreases-mark_nodes-loop-node : goal.decreases-mark_nodes-loop-node
decreases-mark_nodes-loop-node l = length (into_iter_items l.rest)

abbrev pub invariant-mark_parts-loop-graph : goal.invariant-mark_parts-loop-graph
invariant-mark_parts-loop-graph l = PartsGoing l.fn.graphs l.flags l.initial.pass l.marked (into_iter_items l.rest) l.pass

abbrev pub decreases-mark_parts-loop-graph : goal.decreases-mark_parts-loop-graph
decreases-mark_parts-loop-graph l = length (into_iter_items l.rest)

-- a graph is above its nodes, a node above its graphs
abbrev pub decreases-mark_graph : goal.decreases-mark_graph
decreases-mark_graph l = 4 * levels l.graph + 3

abbrev pub decreases-mark_nodes : goal.decreases-mark_nodes
decreases-mark_nodes l = 4 * greatest (map node_levels l.nodes) + 2

abbrev pub decreases-mark_node : goal.decreases-mark_node
decreases-mark_node l = 4 * level_below (map levels (out-Node l.node).subs) + 1

abbrev pub decreases-mark_parts : goal.decreases-mark_parts
decreases-mark_parts l = 4 * level_below (map levels l.graphs)
