-- A listing is that of one graph, and so a program has one unit: where listings begin alike, their graphs are the same.
use Rattle.std.proofs.Common.{◌≡◌, List, [], ◌∷◌, ◌++◌, map, refl, sym, ap, subst, ◌∙◌}
use Rattle.std.specs.List.{flat_map}
use Rattle.std.proofs.lemmas.List.{append_assoc}
use Rattle.if1_graph.specs.declared.graph.Graph.{Graph}
use Rattle.if1_graph.specs.declared.graph.Graph.TheViews.{out-Graph, roll-Graph, roll-out-Graph, roll-out-Node, out-roll-Graph, out-roll-Node}
use Rattle.if1_graph.specs.declared.graph.Graph.TheOpen.{Graph-F, Node-F}
use Rattle.if1_graph.specs.declared.graph.Graph.TheFolds.{fold-roll-Graph, fold-roll-Node, map-Graph, map-Node, ind-Graph}
use Rattle.if1_graph.specs.declared.graph.Node.{Node, roll-Node, out-Node}
use Rattle.if1_graph.specs.declared.graph.Unit1.{Unit1}
use Rattle.typed_tree.specs.declared.program.Program.{Program}
use Rattle.lowered_units.specs.Listed.{ListedNode, ListedGraph, Listing, NodeListing, first_number, all_of, list_graph, list_node, listing, node_listing}
use Rattle.lowered_units.specs.Units.{IsTranslated}

-- ---- lists

is_nil : {A : Type 0} → List A → Type 0
is_nil [] = Unit {0}
is_nil (x ∷ xs) = ⊥

pub nil-is-no-cons : {A B : Type 0} (x : A) (xs : List A) → [] ≡ x ∷ xs → B
unfolding is_nil
nil-is-no-cons x xs e = absurd (subst is_nil e tt)

pub cons-is-no-nil : {A B : Type 0} (x : A) (xs : List A) → x ∷ xs ≡ [] → B
cons-is-no-nil x xs e = nil-is-no-cons x xs (sym e)

first_or : {A : Type 0} → A → List A → A
first_or d [] = d
first_or d (x ∷ xs) = x

behind_first : {A : Type 0} → List A → List A
behind_first [] = []
behind_first (x ∷ xs) = xs

pub heads : {A : Type 0} (x y : A) (xs ys : List A) → x ∷ xs ≡ y ∷ ys → x ≡ y
unfolding first_or
heads x y xs ys e = ap (first_or x) e

pub tails : {A : Type 0} (x y : A) (xs ys : List A) → x ∷ xs ≡ y ∷ ys → xs ≡ ys
unfolding behind_first
tails x y xs ys e = ap behind_first e

-- ---- one level

pub listing-at : (g : Graph)
    → listing g ≡ list_graph (record { number = (out-Graph g).number; exported = (out-Graph g).exported; name = (out-Graph g).name; fun = (out-Graph g).fun; nodes = map node_listing (out-Graph g).nodes; edges = (out-Graph g).edges })
listing-at g = ap listing (sym (roll-out-Graph g)) ∙ fold-roll-Graph Listing NodeListing list_graph list_node (out-Graph g)

pub node-listing-at : (n : Node)
    → node_listing n ≡ list_node (record { label = (out-Node n).label; op = (out-Node n).op; subs = map listing (out-Node n).subs; assoc = (out-Node n).assoc; before = (out-Node n).before; name = (out-Node n).name })
node-listing-at n = ap node_listing (sym (roll-out-Node n)) ∙ fold-roll-Node Listing NodeListing list_graph list_node (out-Node n)

-- ---- graphs and nodes that are read off the front of a listing

abbrev Once : Graph → Type 0
Once g = (h : Graph) (xs ys : Listing) → listing g ++ xs ≡ listing h ++ ys → (g ≡ h) × (xs ≡ ys)

abbrev NodeOnce : Node → Type 0
NodeOnce n = (m : Node) (xs ys : Listing) → (node_listing n).node ≡ (node_listing m).node → (node_listing n).inside ++ xs ≡ (node_listing m).inside ++ ys → (n ≡ m) × (xs ≡ ys)

abbrev pub nodes_in : List Node → List ListedNode
nodes_in ns = map (λ (i : NodeListing). i.node) (map node_listing ns)

abbrev pub inside_in : List Node → Listing
inside_in ns = flat_map (λ (i : NodeListing). i.inside) (map node_listing ns)

nodes-once : (ns : List ((n : Node) × NodeOnce n)) (ms : List Node) (xs ys : Listing)
    → nodes_in (map (λ n. n.0) ns) ≡ nodes_in ms → inside_in (map (λ n. n.0) ns) ++ xs ≡ inside_in ms ++ ys → (map (λ n. n.0) ns ≡ ms) × (xs ≡ ys)
nodes-once [] [] xs ys es e = (refl, e)
nodes-once [] (m ∷ ms) xs ys es e = nil-is-no-cons (node_listing m).node (nodes_in ms) es
nodes-once (n ∷ ns) [] xs ys es e = cons-is-no-nil (node_listing n.0).node (nodes_in (map (λ n. n.0) ns)) es
nodes-once (n ∷ ns) (m ∷ ms) xs ys es e =
    let rest = map (λ (n : (n : Node) × NodeOnce n). n.0) ns in
    let apart = sym (append_assoc (node_listing n.0).inside (inside_in rest) xs) ∙ (e ∙ append_assoc (node_listing m).inside (inside_in ms) ys) in
    let here = n.1 m (inside_in rest ++ xs) (inside_in ms ++ ys) (heads (node_listing n.0).node (node_listing m).node (nodes_in rest) (nodes_in ms) es) apart in
    let more = nodes-once ns ms xs ys (tails (node_listing n.0).node (node_listing m).node (nodes_in rest) (nodes_in ms) es) here.1 in
    (ap (λ x. x ∷ rest) here.0 ∙ ap (λ l. m ∷ l) more.0, more.1)

graphs-once : (gs : List ((g : Graph) × Once g)) (hs : List Graph) (xs ys : Listing)
    → map first_number (map listing (map (λ g. g.0) gs)) ≡ map first_number (map listing hs) → all_of (map listing (map (λ g. g.0) gs)) ++ xs ≡ all_of (map listing hs) ++ ys
    → (map (λ g. g.0) gs ≡ hs) × (xs ≡ ys)
graphs-once [] [] xs ys es e = (refl, e)
graphs-once [] (h ∷ hs) xs ys es e = nil-is-no-cons (first_number (listing h)) (map first_number (map listing hs)) es
graphs-once (g ∷ gs) [] xs ys es e = cons-is-no-nil (first_number (listing g.0)) (map first_number (map listing (map (λ g. g.0) gs))) es
graphs-once (g ∷ gs) (h ∷ hs) xs ys es e =
    let rest = map (λ (g : (g : Graph) × Once g). g.0) gs in
    let apart = sym (append_assoc (listing g.0) (all_of (map listing rest)) xs) ∙ (e ∙ append_assoc (listing h) (all_of (map listing hs)) ys) in
    let here = g.1 h (all_of (map listing rest) ++ xs) (all_of (map listing hs) ++ ys) apart in
    let more = graphs-once gs hs xs ys (tails (first_number (listing g.0)) (first_number (listing h)) (map first_number (map listing rest)) (map first_number (map listing hs)) es) here.1 in
    (ap (λ x. x ∷ rest) here.0 ∙ ap (λ l. h ∷ l) more.0, more.1)

-- ---- a graph of these nodes

abbrev pub head_of : Graph → ListedGraph
head_of g = record { number = (out-Graph g).number; exported = (out-Graph g).exported; name = (out-Graph g).name; fun = (out-Graph g).fun; nodes = nodes_in (out-Graph g).nodes; edges = (out-Graph g).edges }

same-graph : (g h : Graph) → head_of g ≡ head_of h → (out-Graph g).nodes ≡ (out-Graph h).nodes → g ≡ h
same-graph g h e ns =
    sym (roll-out-Graph g)
    ∙ (ap roll-Graph (λ j. record {
      number = ap (λ (x : ListedGraph). x.number) e j;
      exported = ap (λ (x : ListedGraph). x.exported) e j;
      name = ap (λ (x : ListedGraph). x.name) e j;
      fun = ap (λ (x : ListedGraph). x.fun) e j;
      nodes = ns j;
      edges = ap (λ (x : ListedGraph). x.edges) e j;
    })
    ∙ roll-out-Graph h)

graph-once : (g : Graph) → ((ms : List Node) (xs ys : Listing) → nodes_in (out-Graph g).nodes ≡ nodes_in ms → inside_in (out-Graph g).nodes ++ xs ≡ inside_in ms ++ ys → ((out-Graph g).nodes ≡ ms) × (xs ≡ ys)) → Once g
graph-once g nodes h xs ys e =
    let lists : head_of g ∷ inside_in (out-Graph g).nodes ++ xs ≡ head_of h ∷ inside_in (out-Graph h).nodes ++ ys =
    ap (λ l. l ++ xs) (sym (listing-at g)) ∙ (e ∙ ap (λ l. l ++ ys) (listing-at h)) in
    let head = heads (head_of g) (head_of h) (inside_in (out-Graph g).nodes ++ xs) (inside_in (out-Graph h).nodes ++ ys) lists in
    let rest = tails (head_of g) (head_of h) (inside_in (out-Graph g).nodes ++ xs) (inside_in (out-Graph h).nodes ++ ys) lists in
    let more = nodes (out-Graph h).nodes xs ys (ap (λ (x : ListedGraph). x.nodes) head) rest in
    (same-graph g h head more.0, more.1)

abbrev listed_node : Node → ListedNode
listed_node n = record { label = (out-Node n).label; op = (out-Node n).op; parts = map first_number (map listing (out-Node n).subs); assoc = (out-Node n).assoc; before = (out-Node n).before; name = (out-Node n).name }

same-node : (n m : Node) → listed_node n ≡ listed_node m → (out-Node n).subs ≡ (out-Node m).subs → n ≡ m
same-node n m e gs =
    sym (roll-out-Node n)
    ∙ (ap roll-Node (λ j. record {
      label = ap (λ (x : ListedNode). x.label) e j;
      op = ap (λ (x : ListedNode). x.op) e j;
      subs = gs j;
      assoc = ap (λ (x : ListedNode). x.assoc) e j;
      before = ap (λ (x : ListedNode). x.before) e j;
      name = ap (λ (x : ListedNode). x.name) e j;
    })
    ∙ roll-out-Node m)

node-once : (n : Node) → ((hs : List Graph) (xs ys : Listing) → map first_number (map listing (out-Node n).subs) ≡ map first_number (map listing hs) → all_of (map listing (out-Node n).subs) ++ xs ≡ all_of (map listing hs) ++ ys → ((out-Node n).subs ≡ hs) × (xs ≡ ys)) → NodeOnce n
node-once n graphs m xs ys same e =
    let node : listed_node n ≡ listed_node m =
    sym (ap (λ (i : NodeListing). i.node) (node-listing-at n)) ∙ (same ∙ ap (λ (i : NodeListing). i.node) (node-listing-at m)) in
    let lists : all_of (map listing (out-Node n).subs) ++ xs ≡ all_of (map listing (out-Node m).subs) ++ ys =
    ap (λ (i : NodeListing). i.inside ++ xs) (sym (node-listing-at n)) ∙ (e ∙ ap (λ (i : NodeListing). i.inside ++ ys) (node-listing-at m)) in
    let more = graphs (out-Node m).subs xs ys (ap (λ (x : ListedNode). x.parts) node) lists in
    (same-node n m node more.0, more.1)

-- ---- the recursion

graph-layer : (y : Graph-F ((g : Graph) × Once g) ((n : Node) × NodeOnce n)) → Once (roll-Graph (map-Graph ((g : Graph) × Once g) ((n : Node) × NodeOnce n) Graph Node (λ g. g.0) (λ n. n.0) y))
graph-layer y =
    let x : Graph-F Graph Node = map-Graph ((g : Graph) × Once g) ((n : Node) × NodeOnce n) Graph Node (λ g. g.0) (λ n. n.0) y in
    graph-once (roll-Graph x)
    (subst (λ (z : Graph-F Graph Node). (ms : List Node) (xs ys : Listing) → nodes_in z.nodes ≡ nodes_in ms → inside_in z.nodes ++ xs ≡ inside_in ms ++ ys → (z.nodes ≡ ms) × (xs ≡ ys))
    (sym (out-roll-Graph x)) (nodes-once y.nodes))

node-layer : (y : Node-F ((g : Graph) × Once g) ((n : Node) × NodeOnce n)) → NodeOnce (roll-Node (map-Node ((g : Graph) × Once g) ((n : Node) × NodeOnce n) Graph Node (λ g. g.0) (λ n. n.0) y))
node-layer y =
    let x : Node-F Graph Node = map-Node ((g : Graph) × Once g) ((n : Node) × NodeOnce n) Graph Node (λ g. g.0) (λ n. n.0) y in
    node-once (roll-Node x)
    (subst (λ (z : Node-F Graph Node). (hs : List Graph) (xs ys : Listing) → map first_number (map listing z.subs) ≡ map first_number (map listing hs) → all_of (map listing z.subs) ++ xs ≡ all_of (map listing hs) ++ ys → (z.subs ≡ hs) × (xs ≡ ys))
    (sym (out-roll-Node x)) (graphs-once y.subs))

pub once : (g : Graph) → Once g
once = ind-Graph Once NodeOnce (λ x y is. subst (λ z. Once (roll-Graph z)) is (graph-layer y)) (λ x y is. subst (λ z. NodeOnce (roll-Node z)) is (node-layer y))

pub all-once : (gs hs : List Graph) → map listing gs ≡ map listing hs → gs ≡ hs
all-once [] [] e = refl
all-once [] (h ∷ hs) e = nil-is-no-cons (listing h) (map listing hs) e
all-once (g ∷ gs) [] e = cons-is-no-nil (listing g) (map listing gs) e
all-once (g ∷ gs) (h ∷ hs) e =
    ap (λ x. x ∷ gs) (once g h [] [] (ap (λ l. l ++ []) (heads (listing g) (listing h) (map listing gs) (map listing hs) e))).0
    ∙ ap (λ l. h ∷ l) (all-once gs hs (tails (listing g) (listing h) (map listing gs) (map listing hs) e))

pub one-unit : (p : Program) (u v : Unit1) → IsTranslated p u → IsTranslated p v → u ≡ v
one-unit p u v a b =
    let types = a.types ∙ sym b.types in
    let imports = a.imports ∙ sym b.imports in
    let graphs = all-once u.graphs v.graphs (a.graphs ∙ sym b.graphs) in
    λ j. record { types = types j; imports = imports j; graphs = graphs j }
