-- Graphs that are numbered one after another.
use Rattle.std.proofs.Common.{◌≡◌, ℕ, suc, ◌+◌, ◌<◌, ◌≤◌, List, [], ◌∷◌, ◌++◌, map, sum, length, get_or, take, arith, rules, refl, ap, sym, subst, ◌∙◌}
use Rattle.std.proofs.lemmas.List.Sums.{sum-map, sum_by-cons, sum_by_push, sum_by_more_le}
use Rattle.if1_graph.specs.declared.graph.Graph.{Graph}
use Rattle.if1_graph.specs.declared.graph.Graph.TheViews.{out-Graph, roll-Graph, roll-Node}
use Rattle.if1_graph.specs.declared.graph.Graph.TheViews as views
use Rattle.if1_graph.specs.declared.graph.Graph.TheFolds.{fold_out-Graph, fold_out-Node}
use Rattle.if1_graph.specs.declared.graph.Node.{Node, out-Node}
use Rattle.if1_graph.specs.Units.{size, sizes}
use Rattle.if1_read.specs.Like.{IsSameNode, IsLike, AreNodesLike, AreLike, no_node, node, no_graph, more, graph}
use Rattle.if1_read.specs.Counted.{node_size, IsCounted, AreNodesCounted, AreCounted, no_node as counted_no_node, node as counted_node, no_graph as counted_none, more as counted_more, graph as counted_graph}

-- ---- sizes

pub sum_cons : {A : Type 0} (f : A → ℕ) (x : A) (xs : List A) → sum (map f (x ∷ xs)) ≡ f x + sum (map f xs)
sum_cons f x xs = sum-map f (x ∷ xs) ∙ sum_by-cons f x xs ∙ ap (λ n. f x + n) (sym (sum-map f xs))

pub sum_push : {A : Type 0} (f : A → ℕ) (xs : List A) (x : A) → sum (map f (xs ++ x ∷ [])) ≡ sum (map f xs) + f x
sum_push f xs x = sum-map f (xs ++ x ∷ []) ∙ sum_by_push f xs x ∙ ap (λ n. n + f x) (sym (sum-map f xs))

pub size_of_node : (n : Node) → node_size n ≡ sizes (out-Node n).subs
size_of_node n = fold_out-Node ℕ ℕ (λ g. suc (sum g.nodes)) (λ n. sum n.subs) n

pub size_of : (g : Graph) → size g ≡ suc (sum (map node_size (out-Graph g).nodes))
size_of g = fold_out-Graph ℕ ℕ (λ g. suc (sum g.nodes)) (λ n. sum n.subs) g

mutual
  size_like : (g h : Graph) → IsLike g h → size h ≡ size g
  size_like g h (graph g0 h0 s r) = omega (arith, size_of g, size_of h, node_sizes_like (out-Graph g).nodes (out-Graph h).nodes r)

  pub node_sizes_like : (ns ms : List Node) → AreNodesLike ns ms → sum (map node_size ms) ≡ sum (map node_size ns)
  node_sizes_like ns ms no_node = refl
  node_sizes_like ns ms (node n m ns0 ms0 s l r) =
      omega (
        arith,
        sum_cons node_size n ns0,
        sum_cons node_size m ms0,
        size_of_node n,
        size_of_node m,
        sizes_like (out-Node n).subs (out-Node m).subs l,
        node_sizes_like ns0 ms0 r,
      )

  pub sizes_like : (gs hs : List Graph) → AreLike gs hs → sizes hs ≡ sizes gs
  sizes_like gs hs no_graph = refl
  sizes_like gs hs (more g h gs0 hs0 l r) = omega (arith, sum_cons size g gs0, sum_cons size h hs0, size_like g h l, sizes_like gs0 hs0 r)

-- the elements before a place and the one there are as much as all at most
pub sum_here : {A : Type 0} (f : A → ℕ) (xs : List A) (i : ℕ) (d : A) → i < length xs → sum (map f (take i xs)) + f (get_or xs i d) ≤ sum (map f xs)
sum_here f xs i d l = omega (arith, sum-map f (take i xs), sum-map f xs, sum_by_more_le f xs i d l)

-- ---- one more

pub like_push : (gs hs : List Graph) (g h : Graph) → AreLike gs hs → IsLike g h → AreLike (gs ++ g ∷ []) (hs ++ h ∷ [])
like_push gs hs g h no_graph l = more g h [] [] l no_graph
like_push gs hs g h (more a b gs0 hs0 k r) l = more a b (gs0 ++ g ∷ []) (hs0 ++ h ∷ []) k (like_push gs0 hs0 g h r l)

pub nodes_like_push : (ns ms : List Node) (n m : Node) → AreNodesLike ns ms → IsSameNode n m → AreLike (out-Node n).subs (out-Node m).subs →
    AreNodesLike (ns ++ n ∷ []) (ms ++ m ∷ [])
nodes_like_push ns ms n m no_node s l = node n m [] [] s l no_node
nodes_like_push ns ms n m (node a b ns0 ms0 t k r) s l = node a b (ns0 ++ n ∷ []) (ms0 ++ m ∷ []) t k (nodes_like_push ns0 ms0 n m r s l)

pub counted_push : (next : ℕ) (gs : List Graph) (g : Graph) → AreCounted next gs → (out-Graph g).number ≡ next + sizes gs → IsCounted g →
    AreCounted next (gs ++ g ∷ [])
counted_push next gs g (counted_none next0) e c = counted_more next g [] (omega (arith, e)) c (counted_none (next + size g))
counted_push next gs g (counted_more next0 h gs0 f d r) e c =
    counted_more next h (gs0 ++ g ∷ []) f d (counted_push (next + size h) gs0 g r (omega (arith, e, sum_cons size h gs0)) c)

pub nodes_counted_push : (next : ℕ) (ns : List Node) (n : Node) → AreNodesCounted next ns → AreCounted (next + sum (map node_size ns)) (out-Node n).subs →
    AreNodesCounted next (ns ++ n ∷ [])
nodes_counted_push next ns n (counted_no_node next0) c =
    let e : next + sum (map node_size []) ≡ next = omega arith in
    counted_node next n [] (subst (λ (k : ℕ). AreCounted k (out-Node n).subs) e c) (counted_no_node (next + sizes (out-Node n).subs))
nodes_counted_push next ns n (counted_node next0 m ns0 d r) c =
    let e : next + sum (map node_size (m ∷ ns0)) ≡ (next + sizes (out-Node m).subs) + sum (map node_size ns0) =
    omega (arith, sum_cons node_size m ns0, size_of_node m) in
    counted_node next m (ns0 ++ n ∷ []) d
    (nodes_counted_push (next + sizes (out-Node m).subs) ns0 n r (subst (λ (k : ℕ). AreCounted k (out-Node n).subs) e c))

-- ---- a graph and a node with other numbers inside

abbrev pub renumbered : Graph → ℕ → Graph
renumbered g number = roll-Graph (record {
  number = number;
  exported = (out-Graph g).exported;
  name = (out-Graph g).name;
  fun = (out-Graph g).fun;
  nodes = (out-Graph g).nodes;
  edges = (out-Graph g).edges;
})

abbrev pub with_nodes : Graph → List Node → Graph
with_nodes g ns = roll-Graph (record {
  number = (out-Graph g).number;
  exported = (out-Graph g).exported;
  name = (out-Graph g).name;
  fun = (out-Graph g).fun;
  nodes = ns;
  edges = (out-Graph g).edges;
})

abbrev pub with_subs : Node → List Graph → Node
with_subs n gs = roll-Node (record {
  label = (out-Node n).label;
  op = (out-Node n).op;
  subs = gs;
  assoc = (out-Node n).assoc;
  before = (out-Node n).before;
  name = (out-Node n).name;
})

nodes_are : (g : Graph) (ns : List Node) → (out-Graph (with_nodes g ns)).nodes ≡ ns
nodes_are g ns = search (rules, views.the_lemmas)

number_is : (g : Graph) (number : ℕ) (ns : List Node) → (out-Graph (with_nodes (renumbered g number) ns)).number ≡ number
number_is g number ns = search (rules, views.the_lemmas)

old_nodes : (g : Graph) (number : ℕ) → (out-Graph (renumbered g number)).nodes ≡ (out-Graph g).nodes
old_nodes g number = search (rules, views.the_lemmas)

pub graph_like : (g : Graph) (number : ℕ) (ns : List Node) → AreNodesLike (out-Graph (renumbered g number)).nodes ns →
    IsLike g (with_nodes (renumbered g number) ns)
graph_like g number ns l =
    let h = with_nodes (renumbered g number) ns in
    let new : (out-Graph h).nodes ≡ ns = nodes_are (renumbered g number) ns in
    graph g h
    (record {
      edges_are = search (rules, views.the_lemmas);
      name_is = search (rules, views.the_lemmas);
      fun_is = search (rules, views.the_lemmas);
      exported_is = search (rules, views.the_lemmas);
    })
    (subst (λ (ms : List Node). AreNodesLike (out-Graph g).nodes ms) (sym new) (subst (λ (ms : List Node). AreNodesLike ms ns) (old_nodes g number) l))

pub graph_counted : (g : Graph) (number next : ℕ) (ns : List Node) → next ≡ number + 1 → AreNodesCounted next ns →
    IsCounted (with_nodes (renumbered g number) ns)
graph_counted g number next ns e c =
    let h = with_nodes (renumbered g number) ns in
    let new : (out-Graph h).nodes ≡ ns = nodes_are (renumbered g number) ns in
    let at : next ≡ suc (out-Graph h).number = omega (arith, e, number_is g number ns) in
    counted_graph h (subst (λ (ms : List Node). AreNodesCounted (suc (out-Graph h).number) ms) (sym new) (subst (λ (k : ℕ). AreNodesCounted k ns) at c))

pub node_like : (n : Node) (gs : List Graph) → IsSameNode n (with_subs n gs)
node_like n gs = record {
  label_is = search (rules, views.the_lemmas);
  op_is = search (rules, views.the_lemmas);
  list_is = search (rules, views.the_lemmas);
  before_is = search (rules, views.the_lemmas);
  name_is = search (rules, views.the_lemmas);
}

pub subs_are : (n : Node) (gs : List Graph) → (out-Node (with_subs n gs)).subs ≡ gs
subs_are n gs = search (rules, views.the_lemmas)
