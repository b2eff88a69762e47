-- Links between the nodes of a graph, and lists of the places from which they lead to each node.
use Rattle.std.specs.Prelude.{◌≡◌, ℕ, ◌<◌, Bool, true, ◌&&◌, ◌||◌, List, length, slice_index, Contains, ◌==◌}
use Rattle.std.specs.List.{list_any}
use Rattle.if1_graph.specs.declared.graph.Graph.{Graph}
use Rattle.if1_graph.specs.declared.graph.Graph.TheViews.{out-Graph}
use Rattle.if1_graph.specs.declared.graph.Node.{Node, out-Node}
use Rattle.if1_graph.specs.Units.{label_of}
use Rattle.if1_order.specs.Orders.{node_labels}
use Rattle.if1_order.specs.Walks.{Lists, feeders_of, AreInside}
use Rattle.marks_made.specs.Ways.{Links}
use Rattle.marks_made.specs.Made.{is_edge}

-- the first label stands on the ordering list of the node, whose label is the second
abbrev pub is_listed : ℕ → ℕ → Node → Bool
is_listed l m n = (label_of n == m) && list_any (λ k. k == l) (out-Node n).before

-- an edge or an ordering list leads from the first node to the second
abbrev pub links_in : Graph → Links
links_in g l m = list_any (is_edge l m) (out-Graph g).edges || list_any (is_listed l m) (out-Graph g).nodes

-- links lead from nodes of the graph to nodes of the graph
abbrev pub AreLinked : List ℕ → Links → Type 0
AreLinked labels links = (l m : ℕ) → links l m ≡ true → Contains labels l × Contains labels m

abbrev pub IsLinkedInside : Graph → Type 0
IsLinkedInside g = AreLinked (node_labels g) (links_in g)

-- one link more
abbrev pub with_link : Links → ℕ → ℕ → Links
with_link links a t l m = links l m || ((a == l) && (t == m))

-- links from each of these labels to one
abbrev pub with_links : Links → List ℕ → ℕ → Links
with_links links ks t l m = links l m || ((t == m) && list_any (λ k. k == l) ks)

-- and those of the ordering lists of nodes
abbrev pub with_nodes : Links → List Node → Links
with_nodes links ns l m = links l m || list_any (is_listed l m) ns

-- the lists have, for each place, the places from which links lead to it
pub record IsNet (labels : List ℕ) (lists : Lists) (links : Links) : Type 0 where
  pub fit : length lists ≡ length labels
  pub inside : AreInside lists
  pub sound : (s t : ℕ) → Contains (feeders_of lists t) s → links (slice_index labels s) (slice_index labels t) ≡ true
  pub complete : (s t : ℕ) → s < length labels → t < length labels → links (slice_index labels s) (slice_index labels t) ≡ true → Contains (feeders_of lists t) s
