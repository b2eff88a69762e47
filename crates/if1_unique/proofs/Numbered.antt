-- Graphs that differ in their numbers alone are the same, since where each of them stands tells its number.
use Rattle.std.proofs.Common.{◌≡◌, ℕ, zero, suc, ◌+◌, Bool, true, false, cond, List, ◌∷◌, ◌++◌, map, take, sum, refl, sym, ap, ◌∙◌, arith}
use Rattle.std.specs.Prelude.{Contains, filter, nat_lt}
use Rattle.std.specs.List.{flat_map}
use Rattle.if1_graph.specs.declared.graph.Graph.{Graph}
use Rattle.if1_graph.specs.declared.graph.Graph.TheViews.{out-Graph, roll-Graph, roll-Node, roll-out-Graph, roll-out-Node}
use Rattle.if1_graph.specs.declared.graph.Node.{Node, out-Node}
use Rattle.if1_graph.specs.declared.graph.Unit1.{Unit1}
use Rattle.if1_graph.specs.Units.{size, sizes, label_of, size_before, graphs_before, Home, Function, Inside}
use Rattle.if1_read.specs.Like.{IsSameGraph, IsSameNode, IsLike, AreNodesLike, AreLike, no_node, node, no_graph, more, graph}
use Rattle.if1_read.specs.Counted.{node_size}
use Rattle.if1_read.proofs.Numbering.{sum_cons, size_of, size_of_node}
use Rattle.if1_read.proofs.Same.{contains_here, contains_later}
use Rattle.if1_unique.proofs.Held.{Holds, HoldInside, HoldFrom, here, within, first_part, first_function}
use Rattle.if1_unique.proofs.Alike.{Sound}

-- ---- sizes

mutual
  size_like : (g h : Graph) → IsLike g h → size g ≡ size h
  size_like g h (graph g0 h0 s l) = omega (arith, size_of g, size_of h, nodes_size_like (out-Graph g).nodes (out-Graph h).nodes l)

  nodes_size_like : (ns ms : List Node) → AreNodesLike ns ms → sum (map node_size ns) ≡ sum (map node_size ms)
  nodes_size_like ns ms no_node = refl
  nodes_size_like ns ms (node n m ns0 ms0 s l r) =
      omega (arith, sum_cons node_size n ns0, sum_cons node_size m ms0, size_of_node n, size_of_node m, sizes_like (out-Node n).subs (out-Node m).subs l, nodes_size_like ns0 ms0 r)

  sizes_like : (gs hs : List Graph) → AreLike gs hs → sizes gs ≡ sizes hs
  sizes_like gs hs no_graph = refl
  sizes_like gs hs (more g h gs0 hs0 l r) = omega (arith, sum_cons size g gs0, sum_cons size h hs0, size_like g h l, sizes_like gs0 hs0 r)

take_like : (k : ℕ) (gs hs : List Graph) → AreLike gs hs → AreLike (take k gs) (take k hs)
take_like zero gs hs l = no_graph
take_like (suc k) gs hs no_graph = no_graph
take_like (suc k) gs hs (more g h gs0 hs0 l r) = more g h (take k gs0) (take k hs0) l (take_like k gs0 hs0 r)

both_like : (gs hs is js : List Graph) → AreLike gs hs → AreLike is js → AreLike (gs ++ is) (hs ++ js)
both_like gs hs is js no_graph k = k
both_like gs hs is js (more g h gs0 hs0 l r) k = more g h (gs0 ++ is) (hs0 ++ js) l (both_like gs0 hs0 is js r k)

abbrev subs_of : Node → List Graph
subs_of n = (out-Node n).subs

abbrev lower : ℕ → Node → Bool
lower l n = nat_lt (label_of n) l

before_if : (b c : Bool) (n m : Node) (ns ms : List Node) → b ≡ c → AreLike (subs_of n) (subs_of m) → AreLike (flat_map subs_of ns) (flat_map subs_of ms) →
    AreLike (flat_map subs_of (cond b (n ∷ ns) ns)) (flat_map subs_of (cond c (m ∷ ms) ms))
before_if true true n m ns ms e l r = both_like (subs_of n) (subs_of m) (flat_map subs_of ns) (flat_map subs_of ms) l r
before_if true false n m ns ms e l r = absurd cc
before_if false true n m ns ms e l r = absurd cc
before_if false false n m ns ms e l r = r

before_like : (l : ℕ) (ns ms : List Node) → AreNodesLike ns ms → AreLike (flat_map subs_of (filter (lower l) ns)) (flat_map subs_of (filter (lower l) ms))
before_like l ns ms no_node = no_graph
before_like l ns ms (node n m ns0 ms0 s k r) =
    before_if (lower l n) (lower l m) n m (filter (lower l) ns0) (filter (lower l) ms0) (ap (λ (j : ℕ). nat_lt j l) (sym s.label_is)) k (before_like l ns0 ms0 r)

size_before_like : (l : ℕ) (ns ms : List Node) → AreNodesLike ns ms → size_before ns l ≡ size_before ms l
size_before_like l ns ms h = sizes_like (flat_map subs_of (filter (lower l) ns)) (flat_map subs_of (filter (lower l) ms)) (before_like l ns ms h)

-- ---- graphs and nodes by their parts

graph_is : (g h : Graph) → (out-Graph g).number ≡ (out-Graph h).number → IsSameGraph g h → (out-Graph g).nodes ≡ (out-Graph h).nodes → g ≡ h
graph_is g h e s n =
    let same : out-Graph g ≡ out-Graph h =
    λ i. record { number = e i; exported = sym s.exported_is i; name = sym s.name_is i; fun = sym s.fun_is i; nodes = n i; edges = sym s.edges_are i } in
    sym (roll-out-Graph g) ∙ (ap roll-Graph same ∙ roll-out-Graph h)

node_is : (n m : Node) → IsSameNode n m → (out-Node n).subs ≡ (out-Node m).subs → n ≡ m
node_is n m s e =
    let same : out-Node n ≡ out-Node m =
    λ i. record { label = sym s.label_is i; op = sym s.op_is i; subs = e i; assoc = sym s.list_is i; before = sym s.before_is i; name = sym s.name_is i } in
    sym (roll-out-Node n) ∙ (ap roll-Node same ∙ roll-out-Node m)

-- ---- numbers

module _ (u v : Unit1) where
  mutual
    graph_same : (g h : Graph) → IsLike g h → (home there : Home) → Holds (Sound u) home g → Holds (Sound v) there h → graphs_before u home ≡ graphs_before v there → g ≡ h
    graph_same g h (graph g0 h0 s l) home there a b e =
        let number : (out-Graph g).number ≡ (out-Graph h).number = (here (Sound u) home g a).formed.number ∙ (ap suc e ∙ sym (here (Sound v) there h b).formed.number) in
        graph_is g h number s
        (nodes_same (out-Graph g).nodes (out-Graph h).nodes l g h number (λ k. size_before_like k (out-Graph g).nodes (out-Graph h).nodes l)
        (within (Sound u) home g a) (within (Sound v) there h b))

    nodes_same : (ns ms : List Node) → AreNodesLike ns ms → (g h : Graph) → (out-Graph g).number ≡ (out-Graph h).number →
        ((l : ℕ) → size_before (out-Graph g).nodes l ≡ size_before (out-Graph h).nodes l) →
        ((n : Node) → Contains ns n → HoldInside (Sound u) g n 0 (out-Node n).subs) → ((m : Node) → Contains ms m → HoldInside (Sound v) h m 0 (out-Node m).subs) → ns ≡ ms
    nodes_same ns ms no_node g h e f a b = refl
    nodes_same ns ms (node n m ns0 ms0 s l r) g h e f a b =
        let label : label_of n ≡ label_of m = sym s.label_is in
        let here_same : (out-Graph g).number + size_before (out-Graph g).nodes (label_of n) ≡ (out-Graph h).number + size_before (out-Graph h).nodes (label_of n) =
        λ i. e i + f (label_of n) i in
        let base : (out-Graph g).number + size_before (out-Graph g).nodes (label_of n) ≡ (out-Graph h).number + size_before (out-Graph h).nodes (label_of m) =
        here_same ∙ ap (λ (k : ℕ). (out-Graph h).number + size_before (out-Graph h).nodes k) label in
        let subs = parts_same (out-Node n).subs (out-Node m).subs l g h n m 0 base
        (λ k. sizes_like (take k (out-Node n).subs) (take k (out-Node m).subs) (take_like k (out-Node n).subs (out-Node m).subs l))
        (a n (contains_here n ns0)) (b m (contains_here m ms0)) in
        let first = node_is n m s subs in
        let rest = nodes_same ns0 ms0 r g h e f (λ k c. a k (contains_later n ns0 k c)) (λ k c. b k (contains_later m ms0 k c)) in
        λ i. first i ∷ rest i

    parts_same : (gs hs : List Graph) → AreLike gs hs → (outer other : Graph) (n m : Node) (k : ℕ) →
        (out-Graph outer).number + size_before (out-Graph outer).nodes (label_of n) ≡ (out-Graph other).number + size_before (out-Graph other).nodes (label_of m) →
        ((j : ℕ) → sizes (take j (out-Node n).subs) ≡ sizes (take j (out-Node m).subs)) → HoldInside (Sound u) outer n k gs → HoldInside (Sound v) other m k hs → gs ≡ hs
    parts_same gs hs no_graph outer other n m k e f a b = refl
    parts_same gs hs (more g h gs0 hs0 l r) outer other n m k e f a b =
        let x = first_part (Sound u) outer n k g gs0 a in
        let y = first_part (Sound v) other m k h hs0 b in
        let first = graph_same g h l (Inside outer n k) (Inside other m k) x.0 y.0 (λ i. e i + f k i) in
        let rest = parts_same gs0 hs0 r outer other n m (suc k) e f x.1 y.1 in
        λ i. first i ∷ rest i

  pub functions_same : (gs hs : List Graph) → AreLike gs hs → (k : ℕ) → ((j : ℕ) → sizes (take j u.graphs) ≡ sizes (take j v.graphs)) → HoldFrom (Sound u) k gs → HoldFrom (Sound v) k hs → gs ≡ hs
  functions_same gs hs no_graph k f a b = refl
  functions_same gs hs (more g h gs0 hs0 l r) k f a b =
      let x = first_function (Sound u) k g gs0 a in
      let y = first_function (Sound v) k h hs0 b in
      let first = graph_same g h l (Function k) (Function k) x.0 y.0 (f k) in
      let rest = functions_same gs0 hs0 r (suc k) f x.1 y.1 in
      λ i. first i ∷ rest i

  pub all_same : AreLike u.graphs v.graphs → HoldFrom (Sound u) 0 u.graphs → HoldFrom (Sound v) 0 v.graphs → u.graphs ≡ v.graphs
  all_same l a b = functions_same u.graphs v.graphs l 0 (λ j. sizes_like (take j u.graphs) (take j v.graphs) (take_like j u.graphs v.graphs l)) a b
