-- What a lowering becomes as nodes with graphs inside, and how deep these nest.
use Rattle.std.proofs.Common.{◌≡◌, ℕ, suc, ◌+◌, ◌≤◌, false, List, [], ◌∷◌, ◌++◌, map, length, refl, sym, ap, ◌∙◌, arith}
use Rattle.std.specs.Prelude.{All}
use Rattle.std.proofs.lemmas.List.{append_assoc}
use Rattle.std.proofs.lemmas.List.Elements.{All-nil, All-cons, All-head, All-tail, All-append}
use Rattle.if1_graph.specs.declared.graph.Graph.{Graph}
use Rattle.if1_graph.specs.declared.graph.Graph.TheViews.{roll-Graph}
use Rattle.if1_graph.specs.declared.graph.Graph.TheFolds.{fold-Node, fold-roll-Graph, fold-roll-Node}
use Rattle.if1_graph.specs.declared.graph.Node.{Node, roll-Node}
use Rattle.if1_graph.specs.declared.op.Compound.{Compound}
use Rattle.if1_graph.specs.declared.op.Compound.TheVariants as compound
use Rattle.if1_graph.specs.declared.graph.Unit1.{Unit1}
use Rattle.if1_graph.specs.Units.{greatest, level_below, levels, most_levels}
use Rattle.typed_tree.specs.declared.program.Program.{Program}
use Rattle.lowering.specs.declared.feed.Carried.{Carried}
use Rattle.lowering.specs.declared.feed.Wire.{Wire}
use Rattle.lowering.specs.declared.graph.Action.{Action}
use Rattle.lowering.specs.declared.graph.Action.TheVariants.{Row, Call, Whole}
use Rattle.lowering.specs.declared.graph.LoweredNode.{LoweredNode}
use Rattle.lowering.specs.declared.graph.Lowered.{Lowered}
use Rattle.lowering.specs.Graphs.{Lowering, only, joined, andthen, a_node, closed, closed_nodes, numbers, closed_graphs, size, whole, inputs, tag_case_on, new_graph, new_graphs}
use Rattle.lowered_units.specs.Listed.{ListedNode, ListedGraph, Listing, NodeListing, first_number, all_of, list_graph, list_node, listing, node_listing}
use Rattle.lowered_units.specs.Units.{listed_node, listed_nodes, edges_of, inner_graphs}
use Rattle.lowered_units.proofs.Entries.{inner-both}
use Rattle.lowered_units.proofs.OneUnit.{nodes_in, inside_in}

-- how many compound nodes stand around the innermost graph inside of a node
abbrev pub node_levels : Node → ℕ
node_levels = fold-Node ℕ ℕ (λ g. greatest g.nodes) (λ n. level_below n.subs)

abbrev pub IsWithin : ℕ → Node → Type 0
IsWithin k n = node_levels n ≤ k

abbrev pub IsGraphWithin : ℕ → Graph → Type 0
IsGraphWithin k g = levels g ≤ k

-- the graphs of the unit nest no deeper than those of a unit may
abbrev pub AreNested : Unit1 → Type 0
AreNested u = All (IsGraphWithin most_levels) u.graphs

greatest-within : (k : ℕ) (ns : List Node) → All (IsWithin k) ns → greatest (map node_levels ns) ≤ k
greatest-within k [] h = omega arith
greatest-within k (n ∷ ns) h =
    let here = All-head (IsWithin k) n ns h in
    let rest = greatest-within k ns (All-tail (IsWithin k) n ns h) in
    omega (arith, here, rest)

graphs-within : (k : ℕ) (gs : List Graph) → All (IsGraphWithin k) gs → greatest (map levels gs) ≤ k
graphs-within k [] h = omega arith
graphs-within k (g ∷ gs) h =
    let here = All-head (IsGraphWithin k) g gs h in
    let rest = graphs-within k gs (All-tail (IsGraphWithin k) g gs h) in
    omega (arith, here, rest)

below-within : (k : ℕ) (gs : List Graph) → All (IsGraphWithin k) gs → level_below (map levels gs) ≤ suc k
below-within k [] h = omega arith
below-within k (g ∷ gs) h = let r = graphs-within k (g ∷ gs) h in omega (arith, r)

inside-both : (ns ms : List Node) → inside_in (ns ++ ms) ≡ inside_in ns ++ inside_in ms
inside-both [] ms = refl
inside-both (n ∷ ns) ms =
    ap (λ l. (node_listing n).inside ++ l) (inside-both ns ms) ∙ sym (append_assoc (node_listing n).inside (inside_in ns) (inside_in ms))

nodes-both : (ns ms : List Node) → nodes_in (ns ++ ms) ≡ nodes_in ns ++ nodes_in ms
nodes-both [] ms = refl
nodes-both (n ∷ ns) ms = ap (λ l. (node_listing n).node ∷ l) (nodes-both ns ms)

listed-both : (label : ℕ) (vs ws : List LoweredNode) → listed_nodes label (vs ++ ws) ≡ listed_nodes label vs ++ listed_nodes (label + length vs) ws
listed-both label [] ws = ap (λ i. listed_nodes i ws) (omega arith)
listed-both label (v ∷ vs) ws =
    ap (λ l. listed_node label v.action ∷ l) (listed-both (suc label) vs ws ∙ ap (λ i. listed_nodes (suc label) vs ++ listed_nodes i ws) (omega arith))

pub closed-listed : (ks : List Wire) (first own label : ℕ) (vs : List LoweredNode) → listed_nodes label (closed_nodes ks first own vs) ≡ listed_nodes label vs
closed-listed ks first own label [] = refl
closed-listed ks first own label (v ∷ vs) = ap (λ l. listed_node label v.action ∷ l) (closed-listed ks first own (suc label) vs)

-- ---- nodes and graphs by their parts

abbrev pub IsPlain : Action → Type 0
IsPlain (Row op) = Unit {0}
IsPlain (Call f) = Unit {0}
IsPlain (Whole c gs arms given outs) = ⊥

abbrev made_node : ListedNode → List Graph → Node
made_node x gs = roll-Node (record { label = x.label; op = x.op; subs = gs; assoc = x.assoc; before = x.before; name = x.name })

made-listing : (x : ListedNode) (gs : List Graph) → map first_number (map listing gs) ≡ x.parts → node_listing (made_node x gs) ≡ record { node = x; inside = all_of (map listing gs) }
made-listing x gs e =
    fold-roll-Node Listing NodeListing list_graph list_node (record { label = x.label; op = x.op; subs = gs; assoc = x.assoc; before = x.before; name = x.name })
    ∙ ap (λ (ps : List ℕ). record { node = record { label = x.label; op = x.op; parts = ps; assoc = x.assoc; before = x.before; name = x.name }; inside = all_of (map listing gs) }) e

made-levels : (x : ListedNode) (gs : List Graph) → node_levels (made_node x gs) ≡ level_below (map levels gs)
made-levels x gs = fold-roll-Node ℕ ℕ (λ g. greatest g.nodes) (λ n. level_below n.subs) (record { label = x.label; op = x.op; subs = gs; assoc = x.assoc; before = x.before; name = x.name })

abbrev made_graph : ListedGraph → List Node → Graph
made_graph x ns = roll-Graph (record { number = x.number; exported = x.exported; name = x.name; fun = x.fun; nodes = ns; edges = x.edges })

graph-listing : (x : ListedGraph) (ns : List Node) → nodes_in ns ≡ x.nodes → listing (made_graph x ns) ≡ x ∷ inside_in ns
graph-listing x ns e =
    fold-roll-Graph Listing NodeListing list_graph list_node (record { number = x.number; exported = x.exported; name = x.name; fun = x.fun; nodes = ns; edges = x.edges })
    ∙ ap (λ (vs : List ListedNode). record { number = x.number; exported = x.exported; name = x.name; fun = x.fun; nodes = vs; edges = x.edges } ∷ inside_in ns) e

graph-levels : (x : ListedGraph) (ns : List Node) → levels (made_graph x ns) ≡ greatest (map node_levels ns)
graph-levels x ns = fold-roll-Graph ℕ ℕ (λ g. greatest g.nodes) (λ n. level_below n.subs) (record { number = x.number; exported = x.exported; name = x.name; fun = x.fun; nodes = ns; edges = x.edges })

module _ (p : Program) where
  -- nodes that are listed as what a lowering becomes, with at most so many levels inside
  pub record Nested (k n q : ℕ) (m : Lowered) : Type 0 where
    pub list : List Node
    pub nodes : nodes_in list ≡ listed_nodes (suc n) m.nodes
    pub inside : inside_in list ≡ inner_graphs p q m.graphs
    pub deep : All (IsWithin k) list

  abbrev pub Nests : ℕ → Lowering → Type 0
  Nests k f = (n q : ℕ) → Nested k n q (f n q)

  abbrev pub AllNested : ℕ → ℕ → List Lowered → Type 0
  AllNested k q [] = Unit {0}
  AllNested k q (m ∷ ms) = Nested k 0 (suc q) m × AllNested k (q + size m) ms

  pub only-nests : (k : ℕ) (ws : List Wire) → Nests k (only ws)
  only-nests k ws n q = record { list = []; nodes = refl; inside = refl; deep = All-nil (IsWithin k) }

  joined-nested : (k n q : ℕ) (a b : Lowered) → Nested k n q a → Nested k (n + length a.nodes) (q + length a.graphs) b → Nested k n q (joined a b)
  joined-nested k n q a b x y = record {
    list = x.list ++ y.list;
    nodes = nodes-both x.list y.list ∙ ap (λ l. l ++ nodes_in y.list) x.nodes ∙ ap (λ l. listed_nodes (suc n) a.nodes ++ l) (y.nodes ∙ ap (λ i. listed_nodes i b.nodes) (omega arith)) ∙ sym (listed-both (suc n) a.nodes b.nodes);
    inside = inside-both x.list y.list ∙ ap (λ l. l ++ inside_in y.list) x.inside ∙ ap (λ l. inner_graphs p q a.graphs ++ l) y.inside ∙ sym (inner-both p q a.graphs b.graphs);
    deep = All-append (IsWithin k) x.list y.list x.deep y.deep;
  }

  pub then-nests : (k : ℕ) (f : Lowering) (h : List Wire → Lowering) → Nests k f → ((ws : List Wire) → Nests k (h ws)) → Nests k (andthen f h)
  then-nests k f h a b n q =
      let m = f n q in
      joined-nested k n q m (h m.values (n + length m.nodes) (q + length m.graphs)) (a n q) (b m.values (n + length m.nodes) (q + length m.graphs))

  one-nested : (k n q : ℕ) (m : Lowered) (v : LoweredNode) (gs : List Graph) → m.nodes ≡ v ∷ [] → map first_number (map listing gs) ≡ (listed_node (suc n) v.action).parts → all_of (map listing gs) ≡ inner_graphs p q m.graphs
      → level_below (map levels gs) ≤ k → Nested k n q m
  one-nested k n q m v gs e ps is few =
      let x = listed_node (suc n) v.action in
      let l = made-listing x gs ps in
      record {
        list = made_node x gs ∷ [];
        nodes = ap (λ (i : NodeListing). i.node ∷ []) l ∙ sym (ap (listed_nodes (suc n)) e);
        inside = ap (λ (i : NodeListing). i.inside ++ []) l ∙ no-more (all_of (map listing gs)) ∙ is;
        deep = All-cons (IsWithin k) (made_node x gs) [] (omega (arith, made-levels x gs, few)) (All-nil (IsWithin k));
      }
    where
      no-more : (xs : Listing) → xs ++ [] ≡ xs
      no-more [] = refl
      no-more (x ∷ xs) = ap (λ l. x ∷ l) (no-more xs)

  pub node-nests : (k : ℕ) (act : Action) (ins : List Wire) (port : ℕ) (ts : List Carried) → IsPlain act → Nests k (a_node act ins port ts)
  node-nests k (Row op) ins port ts h n q = one-nested k n q (a_node (Row op) ins port ts n q) (record { action = Row op; ins = ins }) [] refl refl refl (omega arith)
  node-nests k (Call f) ins port ts h n q = one-nested k n q (a_node (Call f) ins port ts n q) (record { action = Call f; ins = ins }) [] refl refl refl (omega arith)
  node-nests k (Whole c gs arms given outs) ins port ts h n q = absurd h

  -- ---- graphs

  -- a graph of these nodes
  pub record Made (k : ℕ) (x : ListedGraph) (inside : Listing) : Type 0 where
    pub graph : Graph
    pub listed : listing graph ≡ x ∷ inside
    pub deep : levels graph ≤ k

  pub made : (k q : ℕ) (m : Lowered) (x : ListedGraph) → listed_nodes 1 m.nodes ≡ x.nodes → Nested k 0 q m → Made k x (inner_graphs p q m.graphs)
  made k q m x e h = record {
    graph = made_graph x h.list;
    listed = graph-listing x h.list (h.nodes ∙ e) ∙ ap (λ l. x ∷ l) h.inside;
    deep = let few = greatest-within k h.list h.deep in omega (arith, graph-levels x h.list, few);
  }

  record Graphs (k q : ℕ) (ks : List Wire) (first own : ℕ) (ms : List Lowered) : Type 0 where
    pub list : List Graph
    pub numbered : map first_number (map listing list) ≡ numbers q ms
    pub listed : all_of (map listing list) ≡ inner_graphs p q (closed_graphs ks first own ms)
    pub deep : All (IsGraphWithin k) list

  graphs-of : (k q : ℕ) (ks : List Wire) (first own : ℕ) (ms : List Lowered) → AllNested k q ms → Graphs k q ks first own ms
  graphs-of k q ks first own [] h = record { list = []; numbered = refl; listed = refl; deep = All-nil (IsGraphWithin k) }
  graphs-of k q ks first own (m ∷ ms) h =
      let d = closed ks first own m in
      let x : ListedGraph = record { number = q; exported = false; name = []; fun = 0; nodes = listed_nodes 1 d.nodes; edges = edges_of p 1 d.nodes d.results } in
      let g = made k (suc q) m x (sym (closed-listed ks first own 1 m.nodes)) h.0 in
      let rest = graphs-of k (q + size m) ks first own ms h.1 in
      record {
        list = g.graph ∷ rest.list;
        numbered = ap (λ l. l ∷ map first_number (map listing rest.list)) (ap first_number g.listed) ∙ ap (λ l. q ∷ l) rest.numbered;
        listed =
            ap (λ l. l ++ all_of (map listing rest.list)) g.listed
            ∙ ap (λ l. x ∷ inner_graphs p (suc q) m.graphs ++ l) (rest.listed ∙ ap (λ i. inner_graphs p i (closed_graphs ks first own ms)) (omega arith))
            ∙ ap (λ l. x ∷ l) (sym (inner-both p (suc q) m.graphs (closed_graphs ks first own ms)));
        deep = All-cons (IsGraphWithin k) g.graph rest.list g.deep rest.deep;
      }

  pub whole-nests : (k n q : ℕ) (c : Compound) (ms : List Lowered) (arms : List ℕ) (given : ℕ) (ts : List ℕ) → AllNested k q ms → Nested (suc k) n q (whole c ms arms given ts n q)
  whole-nests k n q c ms arms given ts h =
      let ks = inputs ms in
      let gs = graphs-of k q ks 0 (length ks) ms h in
      one-nested (suc k) n q (whole c ms arms given ts n q) (record { action = Whole c (numbers q ms) arms given (length ts); ins = ks }) gs.list refl gs.numbered gs.listed (below-within k gs.list gs.deep)

  pub tag-nests : (k n q : ℕ) (u : Wire) (ms : List Lowered) (arms ts : List ℕ) → AllNested k q ms → Nested (suc k) n q (tag_case_on u ms arms ts n q)
  tag-nests k n q u ms arms ts h =
      let ks = inputs ms in
      let gs = graphs-of k q ks 1 0 ms h in
      one-nested (suc k) n q (tag_case_on u ms arms ts n q) (record { action = Whole compound.TagCase (numbers q ms) arms 0 (length ts); ins = u ∷ ks }) gs.list refl gs.numbered gs.listed (below-within k gs.list gs.deep)

  abbrev pub AllNest : ℕ → List Lowering → Type 0
  AllNest k [] = Unit {0}
  AllNest k (f ∷ fs) = Nests k f × AllNest k fs

  pub new-nested : (k q : ℕ) (fs : List Lowering) → AllNest k fs → AllNested k q (new_graphs q fs)
  new-nested k q [] h = tt
  new-nested k q (f ∷ fs) h = (h.0 0 (suc q), new-nested k (q + size (new_graph f q)) fs h.1)
