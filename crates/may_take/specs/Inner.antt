-- Which edges consume, in a graph and in all graphs inside it.
use Rattle.std.specs.Prelude.{◌≡◌, ℕ, suc, ◌≤◌, Bool, List, map, All}
use Rattle.std.specs.List.{flat_map}
use Rattle.if1_graph.specs.declared.graph.Graph.{Graph}
use Rattle.if1_graph.specs.declared.graph.Graph.TheViews.{out-Graph}
use Rattle.if1_graph.specs.declared.graph.Node.{Node}
use Rattle.if1_graph.specs.declared.graph.Unit1.{Unit1}
use Rattle.if1_graph.specs.Units.{levels, level_below, Home, Place, each_from, places_of}
use Rattle.if1_marks.specs.Given.{is_consuming}
use Rattle.may_take.specs.declared.functions.Functions.{Functions}
use Rattle.may_take.specs.declared.inner.SeenGraph.{SeenGraph}
use Rattle.may_take.specs.declared.inner.SeenNodes.{SeenNodes}
use Rattle.may_take.specs.declared.inner.SeenParts.{SeenParts}
use Rattle.may_take.specs.Uses.{Tells}
use Rattle.may_take.specs.Looked.{node_places, node_levels, IsLooked, AreLooked, AreNodesLooked}

-- of each edge of the graph, whether it consumes
abbrev pub consuming_at : Unit1 → Place → List Bool
consuming_at u p = map (is_consuming u p.graph) (out-Graph p.graph).edges

-- of a graph, wherever it stands
pub record IsSeen (u : Unit1) (f : Functions) (g : Graph) (s : SeenGraph) : Type 0 where
  pub looked : IsLooked u f g s.looked
  pub consuming : Tells u f → (more : ℕ) (home : Home) → levels g ≤ more → s.consuming.items ≡ map (consuming_at u) (places_of more home g)

-- of some nodes of a graph
pub record AreNodesSeen (u : Unit1) (f : Functions) (g : Graph) (ns : List Node) (s : SeenNodes) : Type 0 where
  pub nodes : AreNodesLooked u f g ns s.nodes
  pub consuming : Tells u f → (more : ℕ) → All (λ n. node_levels n ≤ suc more) ns → s.consuming.items ≡ map (consuming_at u) (flat_map (node_places more g) ns)

-- of graphs one after another, wherever they stand
pub record ArePartsSeen (u : Unit1) (f : Functions) (gs : List Graph) (s : SeenParts) : Type 0 where
  pub parts : AreLooked u f gs s.parts.items
  pub consuming : Tells u f → (more : ℕ) (home : ℕ → Home) → level_below (map levels gs) ≤ suc more → s.consuming.items ≡ map (consuming_at u) (each_from (λ k s. places_of more (home k) s) 0 gs)
