-- Orders in which the nodes of a graph may fire, by their places in it.
use Rattle.std.specs.Prelude.{◌≡◌, ℕ, ◌<◌, ◌↔◌, true, List, [], ◌∷◌, length, take, slice_get, slice_index, find, Option, Some, None, Contains, ◌==◌}
use Rattle.if1_graph.specs.declared.graph.Graph.{Graph}
use Rattle.if1_graph.specs.declared.graph.Graph.TheViews.{out-Graph}
use Rattle.if1_graph.specs.declared.graph.Node.{Node}
use Rattle.if1_graph.specs.declared.graph.Unit1.{Unit1}
use Rattle.if1_graph.specs.Formed.{IsOnce}
use Rattle.if1_graph.specs.Units.{Place, number_of, places}
use Rattle.if1_order.specs.Orders.{node_labels}
use Rattle.if1_reach.specs.Nets.{links_in}
use Rattle.graph_meaning.specs.Demand.{Vertex}
use Rattle.graph_meaning.specs.Networks.{vertex_of}

-- each place of a node once, after the places of all nodes that feed it and of all on its ordering list
pub record IsFiringOrder (g : Graph) (os : List ℕ) : Type 0 where
  pub once : IsOnce os
  pub these : (k : ℕ) → Contains os k ↔ (k < length (out-Graph g).nodes)
  pub after : (j s : ℕ) → j < length os → s < length (out-Graph g).nodes → links_in g (slice_index (node_labels g) s) (slice_index (node_labels g) (slice_index os j)) ≡ true → Contains (take j os) s

-- ---- the nodes at these places

abbrev pub vertex_before : Unit1 → Graph → Option Node → List Vertex → List Vertex
vertex_before u g None vs = vs
vertex_before u g (Some n) vs = vertex_of u g n ∷ vs

abbrev pub vertices_at : Unit1 → Graph → List ℕ → List Vertex
vertices_at u g [] = []
vertices_at u g (k ∷ ks) = vertex_before u g (slice_get (out-Graph g).nodes k) (vertices_at u g ks)

-- of all graphs of a unit, by their numbers
abbrev pub vertices_in : Unit1 → Option Place → List ℕ → List Vertex
vertices_in u None os = []
vertices_in u (Some p) os = vertices_at u p.graph os

abbrev pub order_by : Unit1 → (places : (graph : ℕ) → List ℕ) → (graph : ℕ) → List Vertex
order_by u os g = vertices_in u (find (λ p. number_of p == g) (places u)) (os g)
