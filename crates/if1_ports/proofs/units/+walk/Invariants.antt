use Rattle.std.proofs.Common.{◌+◌, ◌*◌, map, take}
use Rattle.if1_graph.specs.declared.graph.Graph.TheViews.{out-Graph}
use Rattle.if1_graph.specs.Units.{levels, level_below}
use Rattle.if1_ports.specs.Outlines.{types_in}
use Rattle.if1_ports.specs.Names.{callees_in}
use Rattle.if1_ports.specs.Inside.{NodesRight}
use Rattle.if1_ports.proofs.Walks.{FirstRight}
use Rattle.if1_ports.proofs.units.+walk.Given as goal

abbrev pub invariant-wrong_nodes-loop-node : goal.invariant-wrong_nodes-loop-node
invariant-wrong_nodes-loop-node l = NodesRight (types_in l.types) (callees_in l.names) l.graph (take l.node-index (out-Graph l.graph).nodes)

abbrev pub invariant-wrong_parts-loop-place : goal.invariant-wrong_parts-loop-place
invariant-wrong_parts-loop-place l = FirstRight (types_in l.types) (callees_in l.names) l.around l.graphs l.place

-- a graph is above its nodes, and these are above their graphs
abbrev pub decreases-wrong_graph : goal.decreases-wrong_graph
decreases-wrong_graph l = 3 * levels l.graph.now + 2

abbrev pub decreases-wrong_nodes : goal.decreases-wrong_nodes
decreases-wrong_nodes l = 3 * levels l.graph.now + 1

abbrev pub decreases-wrong_parts : goal.decreases-wrong_parts
decreases-wrong_parts l = 3 * level_below (map levels l.graphs.now)
