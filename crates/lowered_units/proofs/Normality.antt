-- A translated unit is normal.
use Rattle.std.proofs.Common.{◌≡◌, ℕ, zero, suc, ◌+◌, ◌≤◌, inl, inr, List, [], ◌∷◌, length, slice_get, Some, refl, sym, ap, subst, ◌∙◌, arith}
use Rattle.std.specs.Prelude.{All, AllPairs}
use Rattle.std.specs.List.Sorted.{IsStrictlyIncreasing}
use Rattle.std.proofs.lemmas.List.Elements.{All-nil, All-cons, All-append}
use Rattle.if1_graph.specs.declared.graph.Edge.{Edge}
use Rattle.if1_graph.specs.declared.graph.Graph.{Graph}
use Rattle.if1_graph.specs.declared.graph.Graph.TheViews.{out-Graph}
use Rattle.if1_graph.specs.declared.graph.Node.{Node, out-Node}
use Rattle.if1_graph.specs.declared.graph.Origin.TheVariants as origin
use Rattle.if1_graph.specs.declared.graph.Unit1.{Unit1}
use Rattle.if1_graph.specs.declared.op.Grouping.{Grouping}
use Rattle.if1_graph.specs.declared.op.Simple.{Simple}
use Rattle.if1_graph.specs.declared.op.Simple.TheVariants as simple
use Rattle.if1_graph.specs.Formed.{want_at}
use Rattle.if1_graph.specs.Normal.{Precedes, canonical_as, canonical_edge, IsNormalGraph, IsNormal}
use Rattle.if1_graph.specs.Rows.{operand_of}
use Rattle.if1_graph.specs.Types.{entry_at}
use Rattle.if1_graph.specs.Units.{most_levels, Place, places}
use Rattle.typed_tree.specs.declared.program.Program.{Program}
use Rattle.lowering.specs.declared.feed.Feed.{Feed}
use Rattle.lowering.specs.declared.feed.Feed.TheVariants.{Literal, Named, Absent, Port}
use Rattle.lowering.specs.declared.feed.Carried.{Carried}
use Rattle.lowering.specs.declared.feed.Carried.TheVariants.{One, Many, Callee}
use Rattle.lowering.specs.declared.feed.Wire.{Wire}
use Rattle.lowering.specs.declared.graph.Action.{Action}
use Rattle.lowering.specs.declared.graph.Action.TheVariants.{Row, Call, Whole}
use Rattle.lowering.specs.declared.graph.LoweredNode.{LoweredNode}
use Rattle.lowering.specs.declared.graph.LoweredGraph.{LoweredGraph}
use Rattle.lowering.specs.Graphs.{node}
use Rattle.lowering.specs.Operations.{integer}
use Rattle.lowering.specs.Programs.{graph_at}
use Rattle.lowering.specs.Types.{label_of as type_label_of}
use Rattle.lowered_units.specs.Fitting.{IsFitting}
use Rattle.lowered_units.specs.Listed.{all_of}
use Rattle.lowered_units.specs.Units.{constant_text, edge, edge_if, edges_into, node_edges, edges_of, called_name, listed_node, listed_nodes, origin_of, IsTranslated}
use Rattle.lowered_units.proofs.Built.{IsGap, IsGoodFeed, IsGood, AreGood, AreFilled, Fills, fills_row, fills_reduction, fills_call}
use Rattle.lowered_units.proofs.Built as built
use Rattle.lowered_units.proofs.Canonical.{constant-stays, reduction-stays, callee-stays}
use Rattle.lowered_units.proofs.Codes.{wanted, plain-want, call-want, reduce-want}
use Rattle.lowered_units.proofs.Entries.{whole_listing, entry}
use Rattle.lowered_units.proofs.Heads.{In, listing-is, Lie, unit-lies, all-within}
use Rattle.lowered_units.proofs.OneUnit.{head_of, nodes_in}
use Rattle.lowered_units.proofs.Literals.{IsValueWant}
use Rattle.lowered_units.proofs.Named.{Match, match, none-before, Standing, standing}
use Rattle.lowered_units.proofs.Nets.{op-of, before-of, row-wants, whole-wants, boundary-wants}
use Rattle.lowered_units.proofs.Ordered.{rising, labels-are, edges-sorted}
use Rattle.lowered_units.proofs.Programs.{functions, basics, right-of}
use Rattle.lowered_units.proofs.Rights.{IsRightNode, AreRight, IsRightGraph}

pub node-beside : (label : ℕ) (ns : List Node) (vs : List LoweredNode) → Match label ns vs → (i : ℕ) (v : LoweredNode) → slice_get vs i ≡ Some v → (n : Node) × (slice_get ns i ≡ Some n)
node-beside label [] [] m i v e = absurd cc
node-beside label [] (x ∷ vs) m i v e = absurd m
node-beside label (n ∷ ns) [] m i v e = absurd m
node-beside label (n ∷ ns) (x ∷ vs) m zero v e = (n, refl)
node-beside label (n ∷ ns) (x ∷ vs) m (suc i) v e = node-beside (suc label) ns vs m.1 i v e

no-lists : (label : ℕ) (ns : List Node) (vs : List LoweredNode) → Match label ns vs → All (λ n. IsStrictlyIncreasing (out-Node n).before) ns
no-lists label [] [] m = All-nil (λ n. IsStrictlyIncreasing (out-Node n).before)
no-lists label [] (v ∷ vs) m = absurd m
no-lists label (n ∷ ns) [] m = absurd m
no-lists label (n ∷ ns) (v ∷ vs) m =
    All-cons (λ n. IsStrictlyIncreasing (out-Node n).before) n ns
    (subst IsStrictlyIncreasing (sym (before-of n (listed_node label v.action) m.0 ∙ none v.action)) (λ k h. absurd (omega (arith, h))))
    (no-lists (suc label) ns vs m.1)
  where
    none : (a : Action) → (listed_node label a).before ≡ []
    none (Row op) = refl
    none (Call f) = refl
    none (Whole c gs arms given outs) = refl

module _ (p : Program) (u : Unit1) (fit : IsFitting p) (t : IsTranslated p u) where
  abbrev count : ℕ
  count = functions p fit

  module _ (g : Graph) where
    abbrev Stays : Edge → Type 0
    Stays e = canonical_edge u g e ≡ e

    one-stays : (f : Feed) (ty : Carried) (node k : ℕ) → IsGoodFeed p.types count f ty → IsValueWant (want_at g node k) → All Stays (edge_if node k (type_label_of p ty) (origin_of f))
    one-stays (Literal c) (One x) node k h v =
        All-cons Stays (edge node k (type_label_of p (One x)) (origin.Lit (constant_text c))) []
        (ap (λ s. edge node k (type_label_of p (One x)) (origin.Lit s)) (constant-stays p u t.types (want_at g node k) c x v h.1)) (All-nil Stays)
    one-stays (Literal c) (Many x) node k h v = absurd h
    one-stays (Literal c) (Callee x) node k h v = absurd h
    one-stays (Named s) ty node k h v = absurd h
    one-stays Absent ty node k h v = absurd h
    one-stays (Port up n q) ty node k h v = All-cons Stays (edge node k (type_label_of p ty) (origin.Port n q)) [] refl (All-nil Stays)

    gap-stays : (f : Feed) (ty : Carried) (node k : ℕ) → IsGap f → All Stays (edge_if node k (type_label_of p ty) (origin_of f))
    gap-stays Absent ty node k h = All-nil Stays
    gap-stays (Literal c) ty node k h = absurd h
    gap-stays (Named s) ty node k h = absurd h
    gap-stays (Port up n q) ty node k h = absurd h

    block-stays : (node k : ℕ) (ws : List Wire) → AreFilled p.types count ws → ((j : ℕ) → k ≤ j → IsValueWant (want_at g node j)) → All Stays (edges_into p node k ws)
    block-stays node k [] h v = All-nil Stays
    block-stays node k (w ∷ []) h v = All-append Stays (edge_if node k (type_label_of p w.ty) (origin_of w.feed)) [] (one-stays w.feed w.ty node k h (v k (omega arith))) (All-nil Stays)
    block-stays node k (w ∷ x ∷ ws) h v =
        All-append Stays (edge_if node k (type_label_of p w.ty) (origin_of w.feed)) (edges_into p node (suc k) (x ∷ ws))
        (elim h.0 [ inl y ↦ one-stays w.feed w.ty node k y (v k (omega arith)) | inr y ↦ gap-stays w.feed w.ty node k y ])
        (block-stays node (suc k) (x ∷ ws) h.1 (λ j i. v j (omega (arith, i))))

    -- a node of a label, by its action
    node-stays : (n : Node) (l : ℕ) (a : Action) (ws : List Wire) → Standing (out-Graph g).nodes l n (node a ws) → IsRightNode p.types count (graph_at p) a ws → All Stays (node_edges p l a ws)
    node-stays n l (Row op) ws s h = filling op ws (Row op) h refl (row-wants p u t.types count g l n op s.found (op-of n (listed_node l (Row op)) s.listed))
      where
        filling : (op : Simple) (ws : List Wire) (a : Action) → Fills p.types count a ws → a ≡ Row op → ((port : ℕ) → want_at g l port ≡ wanted (operand_of op port)) → All Stays (edges_into p l 1 ws)
        filling op _ _ (fills_row x ws h k) e w = block-stays l 1 ws k (λ j i. subst IsValueWant (sym (w j ∙ ap (λ o. wanted (operand_of o j)) (sym (same-row x op e)))) (plain-want x j h))
          where
            same-row : (x y : Simple) → Row x ≡ Row y → x ≡ y
            same-row x y e = cc
        filling op _ _ (fills_reduction r name ws h k) e w =
            let wants : (port : ℕ) → want_at g l port ≡ wanted (operand_of (simple.Reduce r) port) = λ port. w port ∙ ap (λ o. wanted (operand_of o port)) (sym (same-row (simple.Reduce r) op e)) in
            let ty = type_label_of p (One integer) in
            All-cons Stays (edge l 1 ty (origin.Lit name)) (edges_into p l 2 ws)
            (ap (λ s. edge l 1 ty (origin.Lit s)) (ap (λ x. canonical_as x (entry_at u.types ty) name) (wants 1) ∙ reduction-stays p u t.types (basics p fit).integers name))
            (block-stays l 2 ws (built.good-filled p.types count ws k) (λ j i. subst IsValueWant (sym (wants j)) (later r j i)))
          where
            same-row : (x y : Simple) → Row x ≡ Row y → x ≡ y
            same-row x y e = cc

            later : (r : Grouping) (j : ℕ) → 2 ≤ j → IsValueWant (wanted (operand_of (simple.Reduce r) j))
            later r zero i = absurd (omega (arith, i))
            later r (suc zero) i = absurd (omega (arith, i))
            later r (suc (suc j)) i = reduce-want r j
        filling op _ _ (fills_call f ws h k) e w = absurd cc
    node-stays n l (Call f) ws s h = filling ws (Call f) h refl (row-wants p u t.types count g l n simple.Call s.found (op-of n (listed_node l (Call f)) s.listed))
      where
        filling : (ws : List Wire) (a : Action) → Fills p.types count a ws → a ≡ Call f → ((port : ℕ) → want_at g l port ≡ wanted (operand_of simple.Call port)) → All Stays (node_edges p l (Call f) ws)
        filling _ _ (fills_row x ws h k) e w = absurd cc
        filling _ _ (fills_reduction r name ws h k) e w = absurd cc
        filling _ _ (fills_call x ws h k) e w =
            let ty = type_label_of p (Callee f) in
            let name = called_name p (slice_get p.functions f) in
            All-cons Stays (edge l 1 ty (origin.Lit name)) (edges_into p l 2 ws)
            (ap (λ s. edge l 1 ty (origin.Lit s)) (ap (λ x. canonical_as x (entry_at u.types ty) name) (w 1) ∙ callee-stays p u t.types f name))
            (block-stays l 2 ws (built.good-filled p.types count ws k) (λ j i. subst IsValueWant (sym (w j)) (later j i)))
          where
            later : (j : ℕ) → 2 ≤ j → IsValueWant (wanted (operand_of simple.Call j))
            later zero i = absurd (omega (arith, i))
            later (suc zero) i = absurd (omega (arith, i))
            later (suc (suc j)) i = call-want j
    node-stays n l (Whole c gs arms given outs) ws s h =
        let w = whole-wants p u t.types count g l n c s.found (op-of n (listed_node l (Whole c gs arms given outs)) s.listed) in
        block-stays l 1 ws (built.good-filled p.types count ws h.0) (λ j i. subst IsValueWant (sym (w j)) tt)

    edges-stay : (label : ℕ) (vs : List LoweredNode) (results : List Wire) → ((i : ℕ) (v : LoweredNode) → slice_get vs i ≡ Some v → All Stays (node_edges p (label + i) v.action v.ins)) → All Stays (edges_into p 0 1 results) → All Stays (edges_of p label vs results)
    edges-stay label [] results h r = r
    edges-stay label (v ∷ vs) results h r =
        All-append Stays (node_edges p label v.action v.ins) (edges_of p (suc label) vs results) (subst (λ l. All Stays (node_edges p l v.action v.ins)) (omega arith) (h 0 v refl))
        (edges-stay (suc label) vs results (λ i x e. subst (λ l. All Stays (node_edges p l x.action x.ins)) (omega arith) (h (suc i) x e)) r)

    right-node : (vs : List LoweredNode) (i : ℕ) (v : LoweredNode) → AreRight p.types count (graph_at p) vs → slice_get vs i ≡ Some v → IsRightNode p.types count (graph_at p) v.action v.ins
    right-node [] i v h e = absurd cc
    right-node (x ∷ vs) zero v h e = subst (λ (y : LoweredNode). IsRightNode p.types count (graph_at p) y.action y.ins) (same e) h.0
      where
        same : Some x ≡ Some v → x ≡ v
        same e = cc
    right-node (x ∷ vs) (suc i) v h e = right-node vs i v h.1 e

    pub all-stay : (d : LoweredGraph) → nodes_in (out-Graph g).nodes ≡ listed_nodes 1 d.nodes → IsRightGraph p.types count (graph_at p) d → All Stays (edges_of p 1 d.nodes d.results)
    all-stay d e h =
        let ns = (out-Graph g).nodes in
        let m = match 1 ns d.nodes e in
        edges-stay 1 d.nodes d.results
        (λ i v k. let n = node-beside 1 ns d.nodes m i v k in node-stays n.0 (1 + i) v.action v.ins (standing 1 ns d.nodes m i n.0 v n.1 k) (right-node d.nodes i v h.0 k))
        (block-stays 0 1 d.results (built.good-filled p.types count d.results h.1) (λ j i. subst IsValueWant (sym (boundary-wants p u t.types count g (none-before 1 ns d.nodes m 0 (omega arith)) j)) tt))

  graph-normal : (x : Place) → In (head_of x.graph) (whole_listing p) → IsNormalGraph u x
  graph-normal x h =
      let g = x.graph in
      let e = entry p (head_of g) h in
      let m = match 1 (out-Graph g).nodes e.graph.nodes e.nodes in
      record {
        nodes = subst IsStrictlyIncreasing (sym (labels-are 1 (out-Graph g).nodes e.graph.nodes m)) (rising 1 (length e.graph.nodes));
        lists = no-lists 1 (out-Graph g).nodes e.graph.nodes m;
        edges = subst (AllPairs Precedes) (sym e.edges) (edges-sorted p 1 e.graph.nodes e.graph.results (omega arith));
        literals = subst (All (Stays g)) (sym e.edges) (all-stay g e.graph e.nodes (right-of p fit (out-Graph g).number e.graph e.there));
      }

  each-normal : (ps : List Place) → Lie (whole_listing p) ps → All (IsNormalGraph u) ps
  each-normal [] l = All-nil (IsNormalGraph u)
  each-normal (x ∷ ps) l =
      All-cons (IsNormalGraph u) x ps (graph-normal x (l.0 (head_of x.graph) (subst (In (head_of x.graph)) (sym (listing-is x.graph)) (inl refl)))) (each-normal ps l.1)

  pub is-normal : IsNormal u
  is-normal =
      each-normal (places u) (unit-lies most_levels 0 (whole_listing p) u.graphs (λ g i x k. subst (In x) (ap all_of t.graphs) (all-within u.graphs g i x k)))
