use Rattle.std.proofs.Common.{◌≡◌, ◌+◌, ◌*◌, ◌≤◌, ◌++◌, ℕ, suc, map, take}
use Rattle.std.specs.List.{flat_map}
use Rattle.if1_graph.specs.declared.graph.Graph.{Graph}
use Rattle.if1_graph.specs.declared.graph.Graph.TheViews.{out-Graph}
use Rattle.if1_graph.specs.declared.graph.Node.{Node, out-Node}
use Rattle.if1_graph.specs.declared.graph.Unit1.{Unit1}
use Rattle.if1_graph.specs.Ops.{compound_at}
use Rattle.if1_graph.specs.Units.{label_of, level_below, levels, width}
use Rattle.graph_inputs.specs.Inputs.{inputs_of}
use Rattle.graph_inputs.specs.Walks.{node_places, part_places}
use Rattle.graph_inputs.proofs.walk.+walk.Given as goal

abbrev pub invariant-add_nodes-loop-node : goal.invariant-add_nodes-loop-node
invariant-add_nodes-loop-node l = (u : Unit1) (more : ℕ) → levels l.graph ≤ suc more → l.all ≡ l.fn.all ++ map (inputs_of u) (flat_map (node_places more l.graph) (take l.node-index (out-Graph l.graph).nodes))

abbrev pub invariant-add_parts-loop-place : goal.invariant-add_parts-loop-place
invariant-add_parts-loop-place l = (u : Unit1) (outer : Graph) (n : Node) (more : ℕ) → l.graphs ≡ (out-Node n).subs → l.compound ≡ compound_at (out-Node n).op → l.count ≡ width outer (label_of n) → level_below (map levels l.graphs) ≤ suc more
    → l.all ≡ l.fn.all ++ map (inputs_of u) (part_places more outer n 0 (take l.place l.graphs))

-- a graph is above its nodes, and these are above their graphs
abbrev pub decreases-add_graph : goal.decreases-add_graph
decreases-add_graph l = 3 * levels l.graph.now + 2

abbrev pub decreases-add_nodes : goal.decreases-add_nodes
decreases-add_nodes l = 3 * levels l.graph.now + 1

abbrev pub decreases-add_parts : goal.decreases-add_parts
decreases-add_parts l = 3 * level_below (map levels l.graphs.now)
