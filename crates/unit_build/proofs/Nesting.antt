-- Graphs that stand one behind another are those of one nesting, and each end of them is one too.
use Rattle.std.proofs.Common.{◌≡◌, ℕ, ◌+◌, ◌≤◌, List, [], ◌∷◌, ◌++◌, map, take, drop, length, refl, sym, ap, ◌∙◌, arith, append_assoc}
use Rattle.std.proofs.lemmas.List.{append-nil, take_at, drop_at, length-map, length-take}
use Rattle.if1_graph.specs.declared.graph.Graph.{Graph}
use Rattle.if1_graph.specs.declared.graph.Graph.TheViews.{out-Graph}
use Rattle.if1_graph.specs.declared.graph.Graph.TheOpen.{Node-F}
use Rattle.if1_graph.specs.declared.graph.Node.{Node, out-Node}
use Rattle.lowered_units.specs.Listed.{ListedNode, ListedGraph, Listing, NodeListing, first_number, listing, node_listing}
use Rattle.lowered_units.proofs.OneUnit.{nil-is-no-cons, cons-is-no-nil, heads, tails, node-listing-at, once, inside_in, head_of}
use Rattle.lowered_units.proofs.Heads.{listing-is, inside-is}
use Rattle.unit_build.specs.Nesting.{listings, listed, parts, BeginWith, IsNesting, Hold}

pub listings-both : (gs hs : List Graph) → listings (gs ++ hs) ≡ listings gs ++ listings hs
listings-both [] hs = refl
listings-both (g ∷ gs) hs = ap (λ l. listing g ++ l) (listings-both gs hs) ∙ sym (append_assoc (listing g) (listings gs) (listings hs))

pub parts-both : (ns ms : List Node) → parts (ns ++ ms) ≡ parts ns ++ parts ms
parts-both [] ms = refl
parts-both (n ∷ ns) ms = ap (λ l. (out-Node n).subs ++ l) (parts-both ns ms) ∙ sym (append_assoc (out-Node n).subs (parts ns) (parts ms))

pub listed-both : (ns ms : List Node) → listed (ns ++ ms) ≡ listed ns ++ listed ms
listed-both [] ms = refl
listed-both (n ∷ ns) ms = ap (λ l. (node_listing n).node ∷ l) (listed-both ns ms)

-- what is inside of nodes, by their parts
pub inside-parts : (ns : List Node) → inside_in ns ≡ listings (parts ns)
inside-parts [] = refl
inside-parts (n ∷ ns) =
    ap (λ l. l ++ inside_in ns) (inside-is n)
    ∙ (ap (λ l. listings (out-Node n).subs ++ l) (inside-parts ns) ∙ sym (listings-both (out-Node n).subs (parts ns)))

-- ---- a listing is that of one list of graphs

pub same-graphs : (gs hs : List Graph) → listings gs ≡ listings hs → gs ≡ hs
same-graphs [] [] e = refl
same-graphs [] (h ∷ hs) e = nil-is-no-cons (head_of h) (inside_in (out-Graph h).nodes ++ listings hs) (e ∙ ap (λ l. l ++ listings hs) (listing-is h))
same-graphs (g ∷ gs) [] e = cons-is-no-nil (head_of g) (inside_in (out-Graph g).nodes ++ listings gs) (ap (λ l. l ++ listings gs) (sym (listing-is g)) ∙ e)
same-graphs (g ∷ gs) (h ∷ hs) e =
    let r = once g h (listings gs) (listings hs) e in
    ap (λ x. x ∷ gs) r.0 ∙ ap (λ l. h ∷ l) (same-graphs gs hs r.1)

-- ---- the ends of a nesting

-- a graph, the graphs inside of it and those behind it
record First (x : ListedGraph) (xs : Listing) : Type 0 where
  pub graph : Graph
  pub behind : List Graph
  pub head : head_of graph ≡ x
  pub rest : listings (parts (out-Graph graph).nodes ++ behind) ≡ xs

first-of : (x : ListedGraph) (xs : Listing) (gs : List Graph) → listings gs ≡ x ∷ xs → First x xs
first-of x xs [] e = nil-is-no-cons x xs e
first-of x xs (g ∷ gs) e =
    let ns = (out-Graph g).nodes in
    let lists : head_of g ∷ (inside_in ns ++ listings gs) ≡ x ∷ xs = ap (λ l. l ++ listings gs) (sym (listing-is g)) ∙ e in
    record {
      graph = g;
      behind = gs;
      head = heads (head_of g) x (inside_in ns ++ listings gs) xs lists;
      rest =
          listings-both (parts ns) gs
          ∙ (ap (λ l. l ++ listings gs) (sym (inside-parts ns)) ∙ tails (head_of g) x (inside_in ns ++ listings gs) xs lists);
    }

pub nesting-behind : (xs ys : Listing) → IsNesting (xs ++ ys) → IsNesting ys
nesting-behind [] ys h = h
nesting-behind (x ∷ xs) ys h =
    let f = first-of x (xs ++ ys) h.graphs h.same in
    nesting-behind xs ys (record { graphs = parts (out-Graph f.graph).nodes ++ f.behind; same = f.rest })

-- the first of these graphs are inside of the nodes of the graph that stands before them
pub hold-first : (x : ListedGraph) (gs : List Graph) → IsNesting (x ∷ listings gs) → Hold x.nodes gs
hold-first x gs h =
    let f = first-of x (listings gs) h.graphs h.same in
    record {
      nodes = (out-Graph f.graph).nodes;
      rest = f.behind;
      same = ap (λ (y : ListedGraph). y.nodes) f.head;
      inside = same-graphs (parts (out-Graph f.graph).nodes ++ f.behind) gs f.rest;
    }

-- a graph with these nodes, and the graphs behind it
pub listing-first : (g : Graph) (gs hs : List Graph) → parts (out-Graph g).nodes ++ hs ≡ gs → listings (g ∷ hs) ≡ head_of g ∷ listings gs
listing-first g gs hs e =
    let ns = (out-Graph g).nodes in
    ap (λ l. l ++ listings hs) (listing-is g)
    ∙ ap (λ l. head_of g ∷ l) (ap (λ l. l ++ listings hs) (inside-parts ns) ∙ (sym (listings-both (parts ns) hs) ∙ ap listings e))

-- ---- nodes, one after another

numbers-of : (n : Node) → (node_listing n).node.parts ≡ map first_number (map listing (out-Node n).subs)
numbers-of n = ap (λ (i : NodeListing). i.node.parts) (node-listing-at n)

-- what a node that holds graphs takes
pub record Takes (x : ListedNode) (xs : List ListedNode) (gs : List Graph) : Type 0 where
  pub begin : BeginWith x.parts gs
  pub rest : Hold xs (drop (length x.parts) gs)

takes-of : (x : ListedNode) (xs : List ListedNode) (gs : List Graph) (ns : List Node) (rest : List Graph) → listed ns ≡ x ∷ xs → parts ns ++ rest ≡ gs → Takes x xs gs
takes-of x xs gs [] rest e i = nil-is-no-cons x xs e
takes-of x xs gs (n ∷ ns) rest e i =
    let subs = (out-Node n).subs in
    let node = heads (node_listing n).node x (listed ns) xs e in
    let numbers : map first_number (map listing subs) ≡ x.parts = sym (numbers-of n) ∙ ap (λ (y : ListedNode). y.parts) node in
    let size : length subs ≡ length x.parts =
    sym (length-map (map listing subs) first_number ∙ length-map subs listing) ∙ ap length numbers in
    let apart : subs ++ (parts ns ++ rest) ≡ gs = sym (append_assoc subs (parts ns) rest) ∙ i in
    let front : take (length x.parts) gs ≡ subs = ap (take (length x.parts)) (sym apart) ∙ take_at subs (parts ns ++ rest) (length x.parts) size in
    record {
      begin = ap (λ l. map first_number (map listing l)) front ∙ numbers;
      rest = record {
        nodes = ns;
        rest = rest;
        same = tails (node_listing n).node x (listed ns) xs e;
        inside = sym (drop_at subs (parts ns ++ rest) (length x.parts) size) ∙ ap (drop (length x.parts)) apart;
      };
    }

pub takes-first : (x : ListedNode) (xs : List ListedNode) (gs : List Graph) → Hold (x ∷ xs) gs → Takes x xs gs
takes-first x xs gs h = takes-of x xs gs h.nodes h.rest h.same h.inside

-- nodes that are listed alike have as many graphs inside
pub as-many-parts : (ns ms : List Node) → listed ns ≡ listed ms → length (parts ns) ≡ length (parts ms)
as-many-parts [] [] e = refl
as-many-parts [] (m ∷ ms) e = nil-is-no-cons (node_listing m).node (listed ms) e
as-many-parts (n ∷ ns) [] e = cons-is-no-nil (node_listing n).node (listed ns) e
as-many-parts (n ∷ ns) (m ∷ ms) e =
    let node = heads (node_listing n).node (node_listing m).node (listed ns) (listed ms) e in
    let numbers : map first_number (map listing (out-Node n).subs) ≡ map first_number (map listing (out-Node m).subs) =
    sym (numbers-of n) ∙ (ap (λ (y : ListedNode). y.parts) node ∙ numbers-of m) in
    let size : length (out-Node n).subs ≡ length (out-Node m).subs =
    sym (length-map (map listing (out-Node n).subs) first_number ∙ length-map (out-Node n).subs listing)
    ∙ (ap length numbers ∙ (length-map (map listing (out-Node m).subs) first_number ∙ length-map (out-Node m).subs listing)) in
    let more = as-many-parts ns ms (tails (node_listing n).node (node_listing m).node (listed ns) (listed ms) e) in
    let l = length-both (out-Node n).subs (parts ns) in
    let r = length-both (out-Node m).subs (parts ms) in
    omega (arith, size, more, l, r)
  where
    length-both : (gs hs : List Graph) → length (gs ++ hs) ≡ length gs + length hs
    length-both [] hs = omega arith
    length-both (g ∷ gs) hs = let e = length-both gs hs in omega (arith, e)

-- ---- a node behind others

pub listed-push : (ns : List Node) (n : Node) (x : ListedNode) → (node_listing n).node ≡ x → listed (ns ++ n ∷ []) ≡ listed ns ++ x ∷ []
listed-push ns n x e = listed-both ns (n ∷ []) ∙ ap (λ y. listed ns ++ y ∷ []) e

pub parts-push : (ns : List Node) (n : Node) (gs hs : List Graph) → (out-Node n).subs ++ hs ≡ gs → parts (ns ++ n ∷ []) ++ hs ≡ parts ns ++ gs
parts-push ns n gs hs e =
    ap (λ l. l ++ hs) (parts-both ns (n ∷ []) ∙ ap (λ l. parts ns ++ l) (append-nil (out-Node n).subs))
    ∙ (append_assoc (parts ns) (out-Node n).subs hs ∙ ap (λ l. parts ns ++ l) e)

-- ---- a node of these graphs

pub node-listed : (n : Node) (label op : ℕ) (subs : List Graph) (assoc numbers : List ℕ)
    → out-Node n ≡ record { label = label; op = op; subs = subs; assoc = assoc; before = []; name = [] } → map first_number (map listing subs) ≡ numbers
    → (node_listing n).node ≡ record { label = label; op = op; parts = numbers; assoc = assoc; before = []; name = [] }
node-listed n label op subs assoc numbers e s =
    ap (λ (i : NodeListing). i.node) (node-listing-at n)
    ∙ (ap (λ (x : Node-F Graph Node). record { label = x.label; op = x.op; parts = map first_number (map listing x.subs); assoc = x.assoc; before = x.before; name = x.name }) e
    ∙ ap (λ (ps : List ℕ). record { label = label; op = op; parts = ps; assoc = assoc; before = []; name = [] }) s)

pub subs-of : (n : Node) (label op : ℕ) (subs : List Graph) (assoc : List ℕ)
    → out-Node n ≡ record { label = label; op = op; subs = subs; assoc = assoc; before = []; name = [] } → (out-Node n).subs ≡ subs
subs-of n label op subs assoc e = ap (λ (x : Node-F Graph Node). x.subs) e

pub begin-within : (numbers : List ℕ) (gs : List Graph) → BeginWith numbers gs → length numbers ≤ length gs
begin-within numbers gs e =
    let front = take (length numbers) gs in
    let size : length front ≡ length numbers = sym (length-map (map listing front) first_number ∙ length-map front listing) ∙ ap length e in
    let most = length-take (length numbers) gs in
    omega (arith, size, most)
