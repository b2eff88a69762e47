use Rattle.std.proofs.Common.{◌+◌, ◌*◌, map, take}
use Rattle.if1_graph.specs.declared.graph.Graph.TheViews.{out-Graph}
use Rattle.if1_graph.specs.Units.{levels, level_below}
use Rattle.if1_typing.specs.Tables.{table_of}
use Rattle.if1_typing.specs.Inside.{NodesRight}
use Rattle.if1_typing.proofs.Walks.{FirstRight}
use Rattle.if1_typing.proofs.units.+walk.Given as goal

abbrev pub invariant-wrong_nodes-loop-node : goal.invariant-wrong_nodes-loop-node
invariant-wrong_nodes-loop-node l = NodesRight (table_of l.known) l.graph (take l.node-index (out-Graph l.graph).nodes)

abbrev pub invariant-wrong_parts-loop-place : goal.invariant-wrong_parts-loop-place
invariant-wrong_parts-loop-place l = FirstRight (table_of l.known) l.frame l.contents l.inputs l.graphs l.place

-- a graph is above its nodes, and these are above their graphs
abbrev pub decreases-wrong_graph : goal.decreases-wrong_graph
decreases-wrong_graph l = 4 * levels l.graph.now + 3

abbrev pub decreases-wrong_nodes : goal.decreases-wrong_nodes
decreases-wrong_nodes l = 4 * levels l.graph.now + 2

abbrev pub decreases-wrong_node : goal.decreases-wrong_node
decreases-wrong_node l = 4 * levels l.graph.now + 1

abbrev pub decreases-wrong_parts : goal.decreases-wrong_parts
decreases-wrong_parts l = 4 * level_below (map levels l.graphs.now)
