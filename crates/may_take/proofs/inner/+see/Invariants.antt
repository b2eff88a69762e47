use Rattle.std.proofs.Common.{◌≡◌, ◌≤◌, ◌+◌, ◌*◌, ℕ, suc, map, take, All}
use Rattle.std.specs.List.{flat_map}
use Rattle.if1_graph.specs.declared.graph.Graph.TheViews.{out-Graph}
use Rattle.if1_graph.specs.Units.{Home, each_from, levels, level_below, places_of}
use Rattle.may_take.specs.Uses.{Tells}
use Rattle.may_take.specs.Looked.{node_levels, node_places, AreLooked, AreNodesLooked}
use Rattle.may_take.specs.Inner.{consuming_at}
use Rattle.may_take.proofs.inner.+see.Given as goal

abbrev pub invariant-see_nodes-loop-node : goal.invariant-see_nodes-loop-node
invariant-see_nodes-loop-node l = record {
  nodes : AreNodesLooked l.unit l.functions l.graph (take l.node-index (out-Graph l.graph).nodes) l.nodes;
  consuming : Tells l.unit l.functions → (more : ℕ) → All (λ n. node_levels n ≤ suc more) (out-Graph l.graph).nodes →
      l.consuming.items ≡ map (consuming_at l.unit) (flat_map (node_places more l.graph) (take l.node-index (out-Graph l.graph).nodes));
}

abbrev pub invariant-see_parts-loop-graph : goal.invariant-see_parts-loop-graph
invariant-see_parts-loop-graph l = record {
  parts : AreLooked l.unit l.functions (take l.graph-index l.graphs) l.parts.items;
  consuming : Tells l.unit l.functions → (more : ℕ) (home : ℕ → Home) → level_below (map levels l.graphs) ≤ suc more →
      l.consuming.items ≡ map (consuming_at l.unit) (each_from (λ k s. places_of more (home k) s) 0 (take l.graph-index l.graphs));
}

-- a graph is above its nodes, and these are above their graphs
abbrev pub decreases-see : goal.decreases-see
decreases-see l = 3 * levels l.graph.now + 2

abbrev pub decreases-see_nodes : goal.decreases-see_nodes
decreases-see_nodes l = 3 * levels l.graph.now + 1

abbrev pub decreases-see_parts : goal.decreases-see_parts
decreases-see_parts l = 3 * level_below (map levels l.graphs.now)
