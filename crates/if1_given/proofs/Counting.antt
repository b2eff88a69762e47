-- Graphs have numbers from any number on.
use Rattle.std.proofs.Common.{◌≡◌, ℕ, ◌+◌, List, [], ◌∷◌, map, rules, refl, sym, subst}
use Rattle.if1_graph.specs.declared.graph.Graph.{Graph}
use Rattle.if1_graph.specs.declared.graph.Graph.TheViews.{out-Graph, roll-Graph, roll-Node, out-roll-Graph, out-roll-Node}
use Rattle.if1_graph.specs.declared.graph.Graph.TheViews as views
use Rattle.if1_graph.specs.declared.graph.Graph.TheOpen.{Graph-F, Node-F}
use Rattle.if1_graph.specs.declared.graph.Graph.TheFolds.{map-Graph, map-Node, ind-Graph}
use Rattle.if1_graph.specs.declared.graph.Node.{Node, out-Node}
use Rattle.if1_graph.specs.Units.{size, sizes}
use Rattle.if1_read.specs.Like.{IsSameNode, IsLike, AreNodesLike, AreLike, no_node, node, no_graph, more}
use Rattle.if1_read.specs.Counted.{IsCounted, AreNodesCounted, AreCounted, no_node as counted_no_node, node as counted_node, no_graph as counted_none, more as counted_more}
use Rattle.if1_read.proofs.Numbering.{renumbered, with_nodes, with_subs, graph_like, graph_counted, node_like, subs_are}

-- ---- what differs from graphs and nodes in numbers alone, and is numbered from this number on

record Numbered (g : Graph) (n : ℕ) : Type 0 where
  graph : Graph
  like : IsLike g graph
  number : (out-Graph graph).number ≡ n
  counted : IsCounted graph

record NodeNumbered (m : Node) (n : ℕ) : Type 0 where
  node : Node
  same : IsSameNode m node
  like : AreLike (out-Node m).subs (out-Node node).subs
  counted : AreCounted n (out-Node node).subs

pub record AllNumbered (gs : List Graph) (n : ℕ) : Type 0 where
  pub graphs : List Graph
  pub like : AreLike gs graphs
  pub counted : AreCounted n graphs

record NodesNumbered (ms : List Node) (n : ℕ) : Type 0 where
  nodes : List Node
  like : AreNodesLike ms nodes
  counted : AreNodesCounted n nodes

abbrev HasNumbers : Graph → Type 0
HasNumbers g = (n : ℕ) → Numbered g n

abbrev NodeHasNumbers : Node → Type 0
NodeHasNumbers m = (n : ℕ) → NodeNumbered m n

-- ---- one more

no_graphs : (n : ℕ) → AllNumbered [] n
no_graphs n = record { graphs = []; like = no_graph; counted = counted_none n }

one_graph : (g : Graph) (gs : List Graph) (n : ℕ) (h : Numbered g n) → AllNumbered gs (n + size h.graph) → AllNumbered (g ∷ gs) n
one_graph g gs n h rest = record {
  graphs = h.graph ∷ rest.graphs;
  like = more g h.graph gs rest.graphs h.like rest.like;
  counted = counted_more n h.graph rest.graphs h.number h.counted rest.counted;
}

graph_numbered : (g : Graph) → ((n : ℕ) → NodesNumbered (out-Graph g).nodes n) → HasNumbers g
graph_numbered g inner n =
    let r = inner (n + 1) in
    let old : (out-Graph (renumbered g n)).nodes ≡ (out-Graph g).nodes = search (rules, views.the_lemmas) in
    record {
      graph = with_nodes (renumbered g n) r.nodes;
      like = graph_like g n r.nodes (subst (λ (ms : List Node). AreNodesLike ms r.nodes) (sym old) r.like);
      number = search (rules, views.the_lemmas);
      counted = graph_counted g n (n + 1) r.nodes refl r.counted;
    }

node_numbered : (m : Node) → ((n : ℕ) → AllNumbered (out-Node m).subs n) → NodeHasNumbers m
node_numbered m inner n =
    let r = inner n in
    record {
      node = with_subs m r.graphs;
      same = node_like m r.graphs;
      like = subst (AreLike (out-Node m).subs) (sym (subs_are m r.graphs)) r.like;
      counted = subst (AreCounted n) (sym (subs_are m r.graphs)) r.counted;
    }

nodes_numbered : (ms : List ((m : Node) × NodeHasNumbers m)) (n : ℕ) → NodesNumbered (map (λ m. m.0) ms) n
nodes_numbered [] n = record { nodes = []; like = no_node; counted = counted_no_node n }
nodes_numbered (m ∷ ms) n =
    let h = m.1 n in
    let rest = nodes_numbered ms (n + sizes (out-Node h.node).subs) in
    record {
      nodes = h.node ∷ rest.nodes;
      like = node m.0 h.node (map (λ m. m.0) ms) rest.nodes h.same h.like rest.like;
      counted = counted_node n h.node rest.nodes h.counted rest.counted;
    }

graphs_numbered : (gs : List ((g : Graph) × HasNumbers g)) (n : ℕ) → AllNumbered (map (λ g. g.0) gs) n
graphs_numbered [] n = no_graphs n
graphs_numbered (g ∷ gs) n = let h = g.1 n in one_graph g.0 (map (λ g. g.0) gs) n h (graphs_numbered gs (n + size h.graph))

-- ---- the recursion

abbrev G : Type 0
G = (g : Graph) × HasNumbers g

abbrev N : Type 0
N = (m : Node) × NodeHasNumbers m

graph_layer : (y : Graph-F G N) → HasNumbers (roll-Graph (map-Graph G N Graph Node (λ g. g.0) (λ n. n.0) y))
graph_layer y =
    let x : Graph-F Graph Node = map-Graph G N Graph Node (λ g. g.0) (λ n. n.0) y in
    graph_numbered (roll-Graph x) (λ n. subst (λ (z : Graph-F Graph Node). NodesNumbered z.nodes n) (sym (out-roll-Graph x)) (nodes_numbered y.nodes n))

node_layer : (y : Node-F G N) → NodeHasNumbers (roll-Node (map-Node G N Graph Node (λ g. g.0) (λ n. n.0) y))
node_layer y =
    let x : Node-F Graph Node = map-Node G N Graph Node (λ g. g.0) (λ n. n.0) y in
    node_numbered (roll-Node x) (λ n. subst (λ (z : Node-F Graph Node). AllNumbered z.subs n) (sym (out-roll-Node x)) (graphs_numbered y.subs n))

numbers : (g : Graph) → HasNumbers g
numbers = ind-Graph HasNumbers NodeHasNumbers (λ x y is. subst (λ z. HasNumbers (roll-Graph z)) is (graph_layer y)) (λ x y is. subst (λ z. NodeHasNumbers (roll-Node z)) is (node_layer y))

pub all_numbered : (gs : List Graph) (n : ℕ) → AllNumbered gs n
all_numbered [] n = no_graphs n
all_numbered (g ∷ gs) n = let h = numbers g n in one_graph g gs n h (all_numbered gs (n + size h.graph))
