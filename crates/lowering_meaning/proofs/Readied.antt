-- In a ready unit of a program the edges from one output show the same, and a graph inside of a node shows of the node's inputs what the
-- node shows.
use Rattle.std.proofs.Common.{◌≡◌, ℕ, zero, suc, ◌+◌, ◌-◌, ◌≤◌, inl, inr, true, ◌&&◌, List, [], ◌∷◌, ◌++◌, map, slice_get, Option, Some, None, Contains, refl, sym, ap, subst, ◌∙◌, arith, ◌==◌}
use Rattle.std.specs.Prelude.{All, find, filter, MatchOption, MatchBool}
use Rattle.std.proofs.lemmas.Bool.{eq-eqb, le-leb}
use Rattle.std.proofs.lemmas.List.Elements.{All-head}
use Rattle.if1_graph.specs.declared.graph.Edge.{Edge}
use Rattle.if1_graph.specs.declared.graph.Graph.{Graph}
use Rattle.if1_graph.specs.declared.graph.Graph.TheViews.{out-Graph}
use Rattle.if1_graph.specs.declared.graph.Node.{Node, out-Node}
use Rattle.if1_graph.specs.declared.graph.Origin.TheVariants as origin
use Rattle.if1_graph.specs.declared.graph.Unit1.{Unit1}
use Rattle.if1_graph.specs.declared.op.Compound.{Compound}
use Rattle.if1_graph.specs.declared.op.Compound.TheVariants as compound
use Rattle.if1_graph.specs.declared.op.Part.{Part}
use Rattle.if1_graph.specs.declared.op.Part.TheVariants as part
use Rattle.if1_graph.specs.Formed.{want_at}
use Rattle.if1_graph.specs.Ops.{compound_at}
use Rattle.if1_graph.specs.Parts.{part_at}
use Rattle.if1_graph.specs.Ports.{carried, leaves, edges_from, part_of}
use Rattle.if1_graph.specs.Ready.{IsReady}
use Rattle.if1_graph.specs.Tables.{◌>>=◌}
use Rattle.if1_graph.specs.Types.{Sort, sort_at}
use Rattle.if1_graph.specs.Typing.{kind_of, IsFunctionName, IsGiven, AgreesWith, FitsNodeInput, FitsOwnInput, FitsPartInput}
use Rattle.if1_graph.specs.Units.{label_of as node_label, edge_into, width, most_levels, Inside, Place, places, number_of as place_number}
use Rattle.if1_marks.proofs.Lists.{here, there, here-or-there, in-none, in-filter}
use Rattle.graph_meaning.specs.Networks.{first_type}
use Rattle.typed_tree.specs.declared.program.Program.{Program}
use Rattle.lowering.specs.declared.feed.Feed.{Feed}
use Rattle.lowering.specs.declared.feed.Feed.TheVariants.{Literal, Named, Absent, Port}
use Rattle.lowering.specs.declared.feed.Carried.{Carried}
use Rattle.lowering.specs.declared.feed.Carried.TheVariants.{One, Many, Callee}
use Rattle.lowering.specs.declared.feed.Wire.{Wire}
use Rattle.lowering.specs.declared.graph.Action.TheVariants.{Whole}
use Rattle.lowering.specs.declared.graph.LoweredNode.{LoweredNode}
use Rattle.lowering.specs.declared.graph.LoweredGraph.{LoweredGraph}
use Rattle.lowering.specs.Graphs.{node, used, graph_lines}
use Rattle.lowering.specs.Programs.{functions_lowered, graphs, graph_at}
use Rattle.lowering.specs.Types.{label_of}
use Rattle.lowered_units.specs.Fitting.{IsFitting}
use Rattle.lowered_units.specs.Listed.{ListedNode, Listing, NodeListing, first_number, all_of, listing, node_listing}
use Rattle.lowered_units.specs.Units.{compound_code, listed_node, listed_nodes, edges_of, IsTranslated}
use Rattle.lowered_units.proofs.Blocks.{to_node, to_port, find-filtered, edges-at}
use Rattle.lowered_units.proofs.Built.{IsValueType, IsGap, IsGoodFeed, AreGood}
use Rattle.lowered_units.proofs.Entries.{whole_listing, entry}
use Rattle.lowered_units.proofs.Heads.{In, Within, listing-is, Lie, unit-lies, all-within}
use Rattle.lowered_units.proofs.Lined.{WiresIn, NodesIn, IsGraphIn, GraphsIn, program-lined}
use Rattle.lowered_units.proofs.OneUnit.{head_of, nodes_in, node-listing-at}
use Rattle.lowered_units.proofs.Programs.{functions, right-of}
use Rattle.lowered_units.proofs.Rights.{IsRightNode, AreRight}
use Rattle.unit_laws.proofs.TypedEdges.{edge-typed, edge-agrees}
use Rattle.unit_laws.proofs.TypedNodes.{port-filled, width-over}
use Rattle.unit_laws.proofs.TypedPlans.{part-place}
use Rattle.lowering_meaning.proofs.Wires as wires
use Rattle.lowering_meaning.proofs.UsedEdges.{used-edge, port-edge, IsKnown, known}
use Rattle.lowering_meaning.proofs.Showings.{carried_shows, sort_shows, shown-in, no-name}

-- what a graph uses
abbrev pub graph_uses : Option LoweredGraph → List Wire
graph_uses None = []
graph_uses (Some d) = used d.nodes ++ d.results

contains-of : {A : Type 0} (x : A) (xs : List A) → In x xs → Contains xs x
contains-of x [] h = absurd h
contains-of x (y ∷ xs) (inl e) = subst (Contains (y ∷ xs)) (sym e) (here y xs)
contains-of x (y ∷ xs) (inr h) = there y xs x (contains-of x xs h)

leaves-self : (l : ℕ) → leaves (suc l) 1 (origin.Port (suc l) 1) ≡ true
leaves-self l = ap (λ b. b && (1 == 1)) (eq-eqb (suc l) (suc l) refl)

-- ---- nodes of a listing

-- the node of a graph at a place, by the lowered node
node-at : (ns : List Node) (k : ℕ) (vs : List LoweredNode) → nodes_in ns ≡ listed_nodes k vs → (i : ℕ) (v : LoweredNode) → slice_get vs i ≡ Some v → (l : ℕ) → l ≡ k + i
    → (n : Node) × Contains ns n × ((node_listing n).node ≡ listed_node l v.action)
node-at ns k [] e i v s l h = absurd cc
node-at [] k (x ∷ vs) e i v s l h = absurd cc
node-at (n ∷ ns) k (x ∷ vs) e zero v s l h =
    let is : k ≡ l = omega (arith, h) in
    (n, here n ns, first e ∙ ap (λ j. listed_node j x.action) is ∙ ap (λ (y : LoweredNode). listed_node l y.action) (same s))
  where
    first : ((node_listing n).node ∷ nodes_in ns) ≡ (listed_node k x.action ∷ listed_nodes (suc k) vs) → (node_listing n).node ≡ listed_node k x.action
    first e = cc

    same : Some x ≡ Some v → x ≡ v
    same e = cc
node-at (n ∷ ns) k (x ∷ vs) e (suc i) v s l h =
    let r = node-at ns (suc k) vs (others e) i v s l (omega (arith, h)) in
    (r.0, there n ns r.0 r.1, r.2)
  where
    others : ((node_listing n).node ∷ nodes_in ns) ≡ (listed_node k x.action ∷ listed_nodes (suc k) vs) → nodes_in ns ≡ listed_nodes (suc k) vs
    others e = cc

-- the graph inside at a place, by its number
part-at : (ss : List Graph) (gs : List ℕ) → map first_number (map listing ss) ≡ gs → (i q : ℕ) → slice_get gs i ≡ Some q → (s : Graph) × (slice_get ss i ≡ Some s) × ((out-Graph s).number ≡ q)
part-at [] [] e i q h = absurd cc
part-at [] (g ∷ gs) e i q h = absurd cc
part-at (s ∷ ss) [] e i q h = absurd cc
part-at (s ∷ ss) (g ∷ gs) e zero q h = (s, refl, sym (ap first_number (listing-is s)) ∙ (first e ∙ same h))
  where
    first : (first_number (listing s) ∷ map first_number (map listing ss)) ≡ (g ∷ gs) → first_number (listing s) ≡ g
    first e = cc

    same : Some g ≡ Some q → g ≡ q
    same h = cc
part-at (s ∷ ss) (g ∷ gs) e (suc i) q h =
    part-at ss gs (others e) i q h
  where
    others : (first_number (listing s) ∷ map first_number (map listing ss)) ≡ (g ∷ gs) → map first_number (map listing ss) ≡ gs
    others e = cc

-- ---- parts

compound-is : (c : Compound) → compound_at (compound_code c) ≡ Some c
compound-is compound.ForAll = refl
compound-is compound.Select = refl
compound-is compound.TagCase = refl
compound-is compound.LoopA = refl
compound-is compound.LoopB = refl

-- only a TagCase has arms
arm-only : (c : Compound) (k : ℕ) → part_at c k ≡ Some part.Arm → c ≡ compound.TagCase
arm-only compound.TagCase k e = refl
arm-only compound.ForAll zero e = absurd cc
arm-only compound.ForAll (suc zero) e = absurd cc
arm-only compound.ForAll (suc (suc zero)) e = absurd cc
arm-only compound.ForAll (suc (suc (suc k))) e = absurd cc
arm-only compound.Select zero e = absurd cc
arm-only compound.Select (suc k) e = absurd cc
arm-only compound.LoopA zero e = absurd cc
arm-only compound.LoopA (suc zero) e = absurd cc
arm-only compound.LoopA (suc (suc zero)) e = absurd cc
arm-only compound.LoopA (suc (suc (suc zero))) e = absurd cc
arm-only compound.LoopA (suc (suc (suc (suc k)))) e = absurd cc
arm-only compound.LoopB zero e = absurd cc
arm-only compound.LoopB (suc zero) e = absurd cc
arm-only compound.LoopB (suc (suc zero)) e = absurd cc
arm-only compound.LoopB (suc (suc (suc zero))) e = absurd cc
arm-only compound.LoopB (suc (suc (suc (suc k)))) e = absurd cc

given-part : (c : Compound) (o : Option Part) (F : Compound × Part → Type 0) → MatchOption (o >>= λ x. Some (c, x)) ⊥ F → (x : Part) × (o ≡ Some x) × F (c, x)
given-part c None F h = absurd h
given-part c (Some x) F h = (x, refl, h)

node-input : (u : Unit1) (g : Graph) (n : Node) (x : Part) (k port : ℕ) (s : Sort) → (x ≡ part.Arm → 2 ≤ port) → FitsNodeInput u g n x k port s → carried u g (node_label n) port ≡ Some s
node-input u g n part.Arm k zero s h f = f
node-input u g n part.Arm k (suc zero) s h f = absurd (omega (arith, h refl))
node-input u g n part.Arm k (suc (suc m)) s h f = f
node-input u g n part.Selector k port s h f = f
node-input u g n part.Alternative k port s h f = f
node-input u g n part.Generator k port s h f = f
node-input u g n part.Initialization k port s h f = f
node-input u g n part.Test k port s h f = f
node-input u g n part.Body k port s h f = f
node-input u g n part.Returns k port s h f = f

lie-at : (l : Listing) (ps : List Place) (x : Place) → Lie l ps → Contains ps x → Within (listing x.graph) l
lie-at l [] x a c = in-none x c
lie-at l (p ∷ ps) x a c = elim (here-or-there p ps x c) [ inl e ↦ subst (λ (y : Place). Within (listing y.graph) l) e a.0 | inr k ↦ lie-at l ps x a.1 k ]

module _ (p : Program) (u : Unit1) (fit : IsFitting p) (t : IsTranslated p u) where
  lies : Lie (whole_listing p) (places u)
  lies = unit-lies most_levels 0 (whole_listing p) u.graphs (λ g i x k. subst (In x) (ap all_of t.graphs) (all-within u.graphs g i x k))

  graph-in : (ds : List LoweredGraph) (q : ℕ) (d : LoweredGraph) → GraphsIn (graph_lines (functions_lowered p)) ds → slice_get ds q ≡ Some d → IsGraphIn (graph_lines (functions_lowered p)) d
  graph-in [] q d h e = absurd cc
  graph-in (x ∷ ds) zero d h e = subst (IsGraphIn (graph_lines (functions_lowered p))) (same e) h.0
    where
      same : Some x ≡ Some d → x ≡ d
      same e = cc
  graph-in (x ∷ ds) (suc q) d h e = graph-in ds q d h.1 e

  pub in-lines : (q : ℕ) (d : LoweredGraph) → graph_at p q ≡ Some d → IsGraphIn (graph_lines (functions_lowered p)) d
  in-lines zero d e = absurd cc
  in-lines (suc q) d e = graph-in (graphs p) q d (program-lined p fit) e

  -- ---- the place of a graph

  pub record Stands (q : ℕ) (d : LoweredGraph) (x : Place) : Type 0 where
    pub there : graph_at p q ≡ Some d
    pub place : Contains (places u) x
    pub nodes : nodes_in (out-Graph x.graph).nodes ≡ listed_nodes 1 d.nodes
    pub edges : (out-Graph x.graph).edges ≡ edges_of p 1 d.nodes d.results

  pub stands-at : (x : Place) → Contains (places u) x → (d : LoweredGraph) × Stands (place_number x) d x
  stands-at x c =
      let w = lie-at (whole_listing p) (places u) x lies c in
      let h = head_of x.graph in
      let e = entry p h (w h (subst (In h) (sym (listing-is x.graph)) (inl refl))) in
      (e.graph, record { there = e.there; place = c; nodes = e.nodes; edges = e.edges })

  -- ---- what a node's inputs are

  value-of-good : (f : Feed) (c : Carried) → IsGoodFeed p.types (functions p fit) f c → IsValueType p.types (functions p fit) c
  value-of-good (Literal x) (One n) h = h.0
  value-of-good (Literal x) (Many n) h = absurd h
  value-of-good (Literal x) (Callee f) h = absurd h
  value-of-good (Named s) c h = absurd h
  value-of-good Absent c h = absurd h
  value-of-good (Port up n q) c h = h.1

  not-gap : (f : Feed) (c : Carried) → IsGoodFeed p.types (functions p fit) f c → IsGap f → ⊥
  not-gap Absent c h k = absurd h
  not-gap (Literal x) c h k = k
  not-gap (Named s) c h k = k
  not-gap (Port up n q) c h k = k

  good-at : (ws : List Wire) (j : ℕ) (v : Wire) → AreGood p.types (functions p fit) ws → WiresIn (graph_lines (functions_lowered p)) ws → slice_get ws j ≡ Some v → IsKnown p (functions p fit) v.ty
  good-at [] j v g l e = absurd cc
  good-at (w ∷ ws) zero v g l e =
      subst (λ (y : Wire). IsKnown p (functions p fit) y.ty) (same e)
      (record { value = value-of-good w.feed w.ty g.0; line = elim l.0 [ inl gap ↦ absurd (not-gap w.feed w.ty g.0 gap) | inr k ↦ k ] })
    where
      same : Some w ≡ Some v → w ≡ v
      same e = cc
  good-at (w ∷ ws) (suc j) v g l e = good-at ws j v g.1 l.1 e

  right-node : (vs : List LoweredNode) (i : ℕ) (v : LoweredNode) → AreRight p.types (functions p fit) (graph_at p) vs → NodesIn (graph_lines (functions_lowered p)) vs → slice_get vs i ≡ Some v
      → IsRightNode p.types (functions p fit) (graph_at p) v.action v.ins × WiresIn (graph_lines (functions_lowered p)) v.ins
  right-node [] i v r l e = absurd cc
  right-node (x ∷ vs) zero v r l e = subst (λ (y : LoweredNode). IsRightNode p.types (functions p fit) (graph_at p) y.action y.ins × WiresIn (graph_lines (functions_lowered p)) y.ins) (same e) (r.0, l.0.1)
    where
      same : Some x ≡ Some v → x ≡ v
      same e = cc
  right-node (x ∷ vs) (suc i) v r l e = right-node vs i v r.1 l.1 e

  module _ (ready : IsReady u) where
    -- ---- the edge of a port that is used

    pub record ShownEdge (x : Place) (w : Wire) (n r : ℕ) : Type 0 where
      pub edge : Edge
      pub there : Contains (out-Graph x.graph).edges edge
      pub from : edge.from ≡ origin.Port n r
      pub sort : Sort
      pub is : sort_at u.types edge.ty ≡ Some sort
      pub given : IsGiven u x (origin.Port n r) sort
      pub shows : carried_shows p.types w.ty ≡ sort_shows sort

    shown-edge : (q : ℕ) (d : LoweredGraph) (x : Place) → Stands q d x → (w : Wire) (n r : ℕ) → wires.In w (used d.nodes ++ d.results) → w.feed ≡ Port 0 n r → ShownEdge x w n r
    shown-edge q d x st w n r i e =
        let k = used-edge p 1 d.nodes d.results w n r i e in
        let c = subst (λ es. Contains es k.edge) (sym st.edges) (contains-of k.edge (edges_of p 1 d.nodes d.results) k.found) in
        let f = known p (functions p fit) d w n r (right-of p fit q d st.there) (in-lines q d st.there) i e in
        elim (edge-typed u ready x st.place k.edge c) [
          | inl name ↦ absurd (no-name p u t (functions p fit) w.ty f.value f.line (want_at x.graph k.edge.node k.edge.port) (subst (λ l. IsFunctionName (want_at x.graph k.edge.node k.edge.port) (kind_of u l)) k.ty name))
          | inr y ↦ record {
            edge = k.edge;
            there = c;
            from = k.from;
            sort = y.0;
            is = y.1;
            given = subst (λ o. IsGiven u x o y.0) k.from y.3;
            shows = shown-in p u t (functions p fit) w.ty f.value f.line y.0 (sym (ap (sort_at u.types) k.ty) ∙ y.1);
          }
        ]

    first-is : (es : List Edge) (s : Option Sort) → All (λ (o : Edge). sort_at u.types o.ty ≡ s) es → (e : Edge) → Contains es e → first_type u es ≡ s
    first-is [] s h e c = in-none e c
    first-is (x ∷ es) s h e c = All-head (λ (o : Edge). sort_at u.types o.ty ≡ s) x es h

    -- the edges that leave an output of a node show what it is
    pub output-shows : (q : ℕ) (d : LoweredGraph) (x : Place) → Stands q d x → (w : Wire) (l : ℕ) → wires.In w (used d.nodes ++ d.results) → w.feed ≡ Port 0 (suc l) 1
        → (s : Sort) × (first_type u (edges_from x.graph (suc l) 1) ≡ Some s) × (carried_shows p.types w.ty ≡ sort_shows s)
    output-shows q d x st w l i e =
        let k = shown-edge q d x st w (suc l) 1 i e in
        let agree = subst (AgreesWith u x.graph k.edge) k.from (edge-agrees u ready x st.place k.edge k.there) in
        let c = in-filter (λ (e : Edge). leaves (suc l) 1 e.from) (out-Graph x.graph).edges k.edge k.there (ap (leaves (suc l) 1) k.from ∙ leaves-self l) in
        (k.sort, first-is (edges_from x.graph (suc l) 1) (sort_at u.types k.edge.ty) agree k.edge c ∙ k.is, k.shows)

    -- ---- graphs inside

    pub inner-shows : (q : ℕ) (d : LoweredGraph) (x : Place) → Stands q d x → (i : ℕ) (c : Compound) (gs arms : List ℕ) (given outs : ℕ) (ws : List Wire) → slice_get d.nodes i ≡ Some (node (Whole c gs arms given outs) ws)
        → (k r j : ℕ) (y v : Wire) → slice_get gs k ≡ Some r → wires.In y (graph_uses (graph_at p r)) → y.feed ≡ Port 0 0 (suc j) → slice_get ws j ≡ Some v → (c ≡ compound.TagCase → 1 ≤ j)
        → carried_shows p.types v.ty ≡ carried_shows p.types y.ty
    inner-shows q d x st i c gs arms given outs ws is k r j y v g uses feed at first =
        let act = Whole c gs arms given outs in
        let l = 1 + i in
        let n = node-at (out-Graph x.graph).nodes 1 d.nodes st.nodes i (node act ws) is l refl in
        let listed = sym (ap (λ (z : NodeListing). z.node) (node-listing-at n.0)) ∙ n.2 in
        let label : node_label n.0 ≡ l = ap (λ (z : ListedNode). z.label) listed in
        let code : (out-Node n.0).op ≡ compound_code c = ap (λ (z : ListedNode). z.op) listed in
        let s = part-at (out-Node n.0).subs gs (ap (λ (z : ListedNode). z.parts) listed) k r g in
        let home : Place = record { graph = s.0; home = Inside x.graph n.0 k } in
        let inner = stands-at home (part-place u ready x st.place n.0 n.1 k s.0 s.1) in
        let stood : graph_at p r ≡ Some inner.0 = sym (ap (graph_at p) s.2) ∙ inner.1.there in
        let e = shown-edge (place_number home) inner.0 home inner.1 y 0 (suc j) (subst (λ o. wires.In y (graph_uses o)) stood uses) feed in
        let op : part_of n.0 k ≡ (part_at c k >>= λ z. Some (c, z)) = ap (λ o. o >>= λ c. part_at c k >>= λ z. Some (c, z)) (ap compound_at code ∙ compound-is c) in
        let role = given-part c (part_at c k) (λ cp. FitsPartInput u x.graph n.0 cp k (suc j) e.sort) (subst (λ o. MatchOption o ⊥ (λ cp. FitsPartInput u x.graph n.0 cp k (suc j) e.sort)) op e.given) in
        let right = right-node d.nodes i (node act ws) (right-of p fit q d st.there).0 (in-lines q d st.there).0 is in
        let edge = port-edge p (functions p fit) l 1 ws j v right.0.0 at (suc j) (omega arith) in
        let block = ap (λ es. filter (to_node l) es) st.edges ∙ edges-at p 1 d.nodes d.results i (node act ws) (omega arith) is in
        let into : edge_into x.graph (node_label n.0) (suc j) ≡ Some edge.0 =
        ap (λ m. edge_into x.graph m (suc j)) label ∙ (find-filtered l (suc j) (out-Graph x.graph).edges ∙ (ap (find (to_port (suc j))) block ∙ edge.1)) in
        let wide = width-over x.graph (node_label n.0) (suc j) (port-filled x.graph (node_label n.0) (suc j) edge.0 into) in
        let fits : FitsNodeInput u x.graph n.0 role.0 k (suc j) e.sort =
        subst (λ b. MatchBool b (FitsNodeInput u x.graph n.0 role.0 k (suc j) e.sort) (FitsOwnInput u c role.0 (out-Node n.0).subs (suc j - width x.graph (node_label n.0)) e.sort)) (le-leb (suc j) (width x.graph (node_label n.0)) wide) role.2 in
        let carries = node-input u x.graph n.0 role.0 k (suc j) e.sort (λ h. let m = first (arm-only c k (role.1 ∙ ap Some h)) in omega (arith, m)) fits in
        let sort : sort_at u.types (label_of p v.ty) ≡ Some e.sort = sym (ap (λ o. o >>= λ (z : Edge). sort_at u.types z.ty) into ∙ ap (sort_at u.types) edge.2) ∙ carries in
        let f = good-at ws j v right.0.0 right.1 at in
        shown-in p u t (functions p fit) v.ty f.value f.line e.sort sort ∙ sym e.shows
