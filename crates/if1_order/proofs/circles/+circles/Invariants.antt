use Rattle.std.proofs.Common.{◌+◌, ◌*◌, map, take}
use Rattle.if1_graph.specs.Units.{greatest, levels, level_below}
use Rattle.if1_order.specs.Parts.{AreClear, NodesAreClear}
use Rattle.if1_order.proofs.Within.{node_levels}
use Rattle.if1_order.proofs.circles.+circles.Given as goal

abbrev pub invariant-wrong_nodes-loop-node : goal.invariant-wrong_nodes-loop-node
invariant-wrong_nodes-loop-node l = NodesAreClear (take l.node-index l.nodes)

abbrev pub invariant-wrong_parts-loop-graph : goal.invariant-wrong_parts-loop-graph
invariant-wrong_parts-loop-graph l = AreClear (take l.graph-index l.graphs)

-- a graph is above its nodes, a node above its graphs
abbrev pub decreases-wrong_graph : goal.decreases-wrong_graph
decreases-wrong_graph l = 3 * levels l.graph.now + 2

abbrev pub decreases-wrong_nodes : goal.decreases-wrong_nodes
decreases-wrong_nodes l = 3 * greatest (map node_levels l.nodes.now) + 1

abbrev pub decreases-wrong_parts : goal.decreases-wrong_parts
decreases-wrong_parts l = 3 * level_below (map levels l.graphs.now)
