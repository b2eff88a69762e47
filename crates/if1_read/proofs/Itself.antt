-- Each graph differs from itself in nothing.
use Rattle.std.proofs.Common.{◌≡◌, List, [], ◌∷◌, map, refl, sym, subst}
use Rattle.if1_graph.specs.declared.graph.Graph.{Graph}
use Rattle.if1_graph.specs.declared.graph.Graph.TheViews.{out-Graph, roll-Graph, out-roll-Graph, out-roll-Node}
use Rattle.if1_graph.specs.declared.graph.Graph.TheOpen.{Graph-F, Node-F}
use Rattle.if1_graph.specs.declared.graph.Graph.TheFolds.{map-Graph, map-Node, ind-Graph}
use Rattle.if1_graph.specs.declared.graph.Node.{Node, roll-Node, out-Node}
use Rattle.if1_read.specs.Like.{IsLike, AreNodesLike, AreLike, no_node, node, no_graph, more, graph}

abbrev Itself : Graph → Type 0
Itself g = IsLike g g

abbrev NodeItself : Node → Type 0
NodeItself n = AreLike (out-Node n).subs (out-Node n).subs

graphs_same : (gs : List ((g : Graph) × Itself g)) → AreLike (map (λ g. g.0) gs) (map (λ g. g.0) gs)
graphs_same [] = no_graph
graphs_same (g ∷ gs) = more g.0 g.0 (map (λ g. g.0) gs) (map (λ g. g.0) gs) g.1 (graphs_same gs)

nodes_same : (ns : List ((n : Node) × NodeItself n)) → AreNodesLike (map (λ n. n.0) ns) (map (λ n. n.0) ns)
nodes_same [] = no_node
nodes_same (n ∷ ns) =
    node n.0 n.0 (map (λ n. n.0) ns) (map (λ n. n.0) ns) (record { label_is = refl; op_is = refl; list_is = refl; before_is = refl; name_is = refl }) n.1 (nodes_same ns)

graph_same : (g : Graph) → AreNodesLike (out-Graph g).nodes (out-Graph g).nodes → Itself g
graph_same g same = graph g g (record { edges_are = refl; name_is = refl; fun_is = refl; exported_is = refl }) same

graph_layer : (y : Graph-F ((g : Graph) × Itself g) ((n : Node) × NodeItself n)) →
    Itself (roll-Graph (map-Graph ((g : Graph) × Itself g) ((n : Node) × NodeItself n) Graph Node (λ g. g.0) (λ n. n.0) y))
graph_layer y =
    let x : Graph-F Graph Node = map-Graph ((g : Graph) × Itself g) ((n : Node) × NodeItself n) Graph Node (λ g. g.0) (λ n. n.0) y in
    graph_same (roll-Graph x) (subst (λ (z : Graph-F Graph Node). AreNodesLike z.nodes z.nodes) (sym (out-roll-Graph x)) (nodes_same y.nodes))

node_layer : (y : Node-F ((g : Graph) × Itself g) ((n : Node) × NodeItself n)) →
    NodeItself (roll-Node (map-Node ((g : Graph) × Itself g) ((n : Node) × NodeItself n) Graph Node (λ g. g.0) (λ n. n.0) y))
node_layer y =
    let x : Node-F Graph Node = map-Node ((g : Graph) × Itself g) ((n : Node) × NodeItself n) Graph Node (λ g. g.0) (λ n. n.0) y in
    subst (λ (z : Node-F Graph Node). AreLike z.subs z.subs) (sym (out-roll-Node x)) (graphs_same y.subs)

pub itself : (g : Graph) → IsLike g g
itself = ind-Graph Itself NodeItself (λ x y is. subst (λ z. Itself (roll-Graph z)) is (graph_layer y)) (λ x y is. subst (λ z. NodeItself (roll-Node z)) is (node_layer y))

pub all_themselves : (gs : List Graph) → AreLike gs gs
all_themselves [] = no_graph
all_themselves (g ∷ gs) = more g g gs gs (itself g) (all_themselves gs)
