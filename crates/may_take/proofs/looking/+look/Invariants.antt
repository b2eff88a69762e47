use Rattle.std.proofs.Common.{◌+◌, ◌*◌, map, take}
use Rattle.if1_graph.specs.declared.graph.Graph.TheViews.{out-Graph}
use Rattle.if1_graph.specs.Units.{levels, level_below}
use Rattle.may_take.specs.Looked.{AreLooked, AreNodesLooked}
use Rattle.may_take.proofs.looking.+look.Given as goal

abbrev pub invariant-look_nodes-loop-node : goal.invariant-look_nodes-loop-node
invariant-look_nodes-loop-node l = AreNodesLooked l.unit l.functions l.graph (take l.node-index (out-Graph l.graph).nodes) l.nodes

abbrev pub invariant-look_parts-loop-graph : goal.invariant-look_parts-loop-graph
invariant-look_parts-loop-graph l = AreLooked l.unit l.functions (take l.graph-index l.graphs) l.parts.items

-- a graph is above its nodes, and these are above their graphs
abbrev pub decreases-look : goal.decreases-look
decreases-look l = 3 * levels l.graph.now + 2

abbrev pub decreases-look_nodes : goal.decreases-look_nodes
decreases-look_nodes l = 3 * levels l.graph.now + 1

abbrev pub decreases-look_parts : goal.decreases-look_parts
decreases-look_parts l = 3 * level_below (map levels l.graphs.now)
