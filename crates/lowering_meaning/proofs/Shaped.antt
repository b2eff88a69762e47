-- In a translated unit the node of a record's fields has the shape that the type of its wire tells.
use Rattle.std.proofs.Common.{◌≡◌, ℕ, suc, ◌+◌, ◌≤◌, inl, inr, Option, None, List, [], ◌∷◌, ◌++◌, map, slice_get, Some, refl, sym, ap, subst, ◌∙◌, arith}
use Rattle.std.specs.Prelude.{find, filter, ◌==◌}
use Rattle.if1_graph.specs.declared.graph.Edge.{Edge}
use Rattle.if1_graph.specs.declared.graph.Graph.TheViews.{out-Graph}
use Rattle.if1_graph.specs.declared.graph.Unit1.{Unit1}
use Rattle.if1_graph.specs.declared.op.Compound.{Compound}
use Rattle.if1_graph.specs.declared.op.Compound.TheVariants as compound
use Rattle.if1_graph.specs.declared.op.Grouping.{Grouping}
use Rattle.if1_graph.specs.declared.op.Simple.TheVariants as simple
use Rattle.if1_graph.specs.Ports.{fields_of, tags_of, edges_from}
use Rattle.if1_graph.specs.Ready.{IsReady}
use Rattle.if1_graph.specs.Tables.{◌>>=◌}
use Rattle.if1_graph.specs.Types.{sort_at}
use Rattle.if1_graph.specs.Units.{most_levels, Place, places, number_of as place_number}
use Rattle.graph_meaning.specs.Networks.{first_type, fields_shape, stream_shape, union_shape}
use Rattle.if1_marks.proofs.Lists.{found-in}
use Rattle.typed_tree.specs.declared.program.Program.{Program}
use Rattle.lowering.specs.declared.feed.Feed.{Feed}
use Rattle.lowering.specs.declared.feed.Feed.TheVariants.{Literal, Named, Absent, Port}
use Rattle.lowering.specs.declared.feed.Carried.{Carried}
use Rattle.lowering.specs.declared.feed.Wire.{Wire}
use Rattle.lowering.specs.declared.graph.Action.{Action}
use Rattle.lowering.specs.declared.graph.Action.TheVariants.{Row, Whole}
use Rattle.lowering.specs.declared.graph.LoweredNode.{LoweredNode}
use Rattle.lowering.specs.declared.graph.LoweredGraph.{LoweredGraph}
use Rattle.lowering.specs.Graphs.{node, graph_lines}
use Rattle.lowering.specs.Programs.{functions_lowered, graph_at}
use Rattle.lowering.specs.Types.{label_of}
use Rattle.lowered_units.specs.Fitting.{IsFitting}
use Rattle.lowered_units.specs.Listed.{ListedGraph, all_of}
use Rattle.lowered_units.specs.Networks.{shape_in, shapes}
use Rattle.lowered_units.specs.Units.{edge_if, origin_of, node_edges, IsTranslated}
use Rattle.lowered_units.proofs.Blocks.{to_node, to_port, find-filtered, edges-at}
use Rattle.lowered_units.proofs.Built.{IsGap, IsGoodFeed, IsGood, AreFilled, Fills, fills_row, fills_reduction, fills_call}
use Rattle.lowered_units.proofs.Entries.{whole_listing, IsEntry, numbered}
use Rattle.lowered_units.proofs.Heads.{In, Lie, unit-heads, unit-lies, all-within, find-place}
use Rattle.lowered_units.proofs.OneUnit.{head_of}
use Rattle.lowered_units.proofs.Lined.{WiresIn, NodesIn}
use Rattle.lowered_units.proofs.Nested.{AreNested}
use Rattle.lowered_units.proofs.Programs.{functions, right-of}
use Rattle.lowered_units.proofs.Rights.{IsRightNode, AreRight}
use Rattle.lowering_meaning.proofs.Told.{Showing, Telling, AreInner, IsTold, AreTold}
use Rattle.lowering_meaning.proofs.Wires as wires
use Rattle.lowering_meaning.proofs.Sites.{Shows}
use Rattle.lowering_meaning.proofs.Showings.{carried_shows, stream_by, union_by, stream-shown, union-shown}
use Rattle.lowering_meaning.proofs.Readied.{graph_uses, Stands, stands-at, in-lines, output-shows, inner-shows}

-- what the types on the edges of a unit tell, by the types of a program
abbrev pub telling : Program → Unit1 → Telling
telling p u = record {
  row = shapes u;
  elements = λ c. fields_shape (fields_of (sort_at u.types (label_of p c)));
  lines = graph_lines (functions_lowered p);
  used = λ q. graph_uses (graph_at p q);
  shows = carried_shows p.types;
}

abbrev NotCase : Compound → Type 0
NotCase compound.TagCase = ⊥
NotCase c = Unit {0}

module _ (p : Program) (u : Unit1) (fit : IsFitting p) (t : IsTranslated p u) (nests : AreNested u) where
  heads : map (λ x. head_of x.graph) (places u) ≡ whole_listing p
  heads = unit-heads most_levels 0 u.graphs nests ∙ ap all_of t.graphs

  lies : Lie (whole_listing p) (places u)
  lies = unit-lies most_levels 0 (whole_listing p) u.graphs (λ g i x k. subst (In x) (ap all_of t.graphs) (all-within u.graphs g i x k))

  same-graph : (x : ListedGraph) (e : IsEntry p x) (q : ℕ) (d : LoweredGraph) → x.number ≡ q → graph_at p q ≡ Some d → e.graph ≡ d
  same-graph x e q d n h = some-same e.graph d (sym e.there ∙ (ap (graph_at p) n ∙ h))
    where
      some-same : (a b : LoweredGraph) → Some a ≡ Some b → a ≡ b
      some-same a b e = cc

  abbrev RightNode : Action → List Wire → Type 0
  RightNode a ws = IsRightNode p.types (functions p fit) (graph_at p) a ws

  -- the edge into the port of a wire has its label
  edge-label : (l : ℕ) (f : Feed) (c : Carried) → IsGoodFeed p.types (functions p fit) f c
      → (find (to_port 1) (edge_if l 1 (label_of p c) (origin_of f) ++ []) >>= λ (e : Edge). sort_at u.types e.ty) ≡ sort_at u.types (label_of p c)
  edge-label l (Literal x) c h = refl
  edge-label l (Port up n q) c h = refl
  edge-label l (Named s) c h = absurd h
  edge-label l Absent c h = absurd h

  filled : (act : Action) (ws : List Wire) (w : Wire) → Fills p.types (functions p fit) act ws → act ≡ Row simple.RElements → ws ≡ w ∷ [] → IsGood p.types (functions p fit) w
  filled _ _ w (fills_row x ws h k) e s = subst (AreFilled p.types (functions p fit)) s k
  filled _ _ w (fills_reduction r name ws h k) e s = absurd cc
  filled _ _ w (fills_call x ws h k) e s = absurd cc

  no-gap : (f : Feed) (c : Carried) → IsGoodFeed p.types (functions p fit) f c → IsGap f → ⊥
  no-gap Absent c h k = absurd h
  no-gap (Literal x) c h k = k
  no-gap (Named s) c h k = k
  no-gap (Port up n q) c h k = k

  -- the graphs inside of a compound node show of its inputs what it shows
  abbrev IsInner : Action → List Wire → Type 0
  IsInner act ws =
      (c : Compound) (gs arms : List ℕ) (given outs : ℕ) → act ≡ Whole c gs arms given outs
      → (k r j : ℕ) (y v : Wire) → slice_get gs k ≡ Some r → wires.In y (graph_uses (graph_at p r)) → y.feed ≡ Port 0 0 (suc j) → slice_get ws j ≡ Some v → (c ≡ compound.TagCase → 1 ≤ j)
      → carried_shows p.types v.ty ≡ carried_shows p.types y.ty

  not-case : (c : Compound) → NotCase c → (j : ℕ) → c ≡ compound.TagCase → 1 ≤ j
  not-case c h j e = absurd (subst NotCase e h)

  plain-inner : (c : Compound) (gs arms : List ℕ) (given outs : ℕ) (ws : List Wire) → NotCase c → IsInner (Whole c gs arms given outs) ws → AreInner (telling p u) 0 gs ws
  plain-inner c gs arms given outs ws h inner k r j y v g n f s =
      let e : 0 + j ≡ j = omega arith in
      inner c gs arms given outs refl k r j y v g n (f ∙ ap (λ m. Port 0 0 (suc m)) e) s (not-case c h j)

  module _ (q : ℕ) (x : Place) (found : find (λ y. place_number y == q) (places u) ≡ Some x) where
    node-told : (l : ℕ) (act : Action) (ws : List Wire) → RightNode act ws → WiresIn (graph_lines (functions_lowered p)) ws → filter (to_node l) (out-Graph x.graph).edges ≡ node_edges p l act ws → IsInner act ws → IsTold (telling p u) q l act ws
    node-told l (Row simple.RElements) (w ∷ []) h i es inner =
        let good = filled (Row simple.RElements) (w ∷ []) w h refl refl in (
          ap (λ o. shape_in u o l simple.RElements) found
              ∙ ap (λ o. fields_shape (fields_of o)) (ap (λ o. o >>= λ (e : Edge). sort_at u.types e.ty) (find-filtered l 1 (out-Graph x.graph).edges ∙ ap (find (to_port 1)) es) ∙ edge-label l w.feed w.ty good),
          elim i.0 [ inl gap ↦ absurd (no-gap w.feed w.ty good gap) | inr k ↦ k ],
        )
    node-told l (Row simple.RElements) [] h i es inner = tt
    node-told l (Row simple.RElements) (w ∷ v ∷ ws) h i es inner = tt
    node-told l (Whole compound.TagCase gs arms given outs) [] h i es inner = tt
    node-told l (Whole compound.TagCase gs arms given outs) (w ∷ ws) h i es inner = λ k r j y v g n f s.
        let e : 1 + j ≡ suc j = omega arith in
        inner compound.TagCase gs arms given outs refl k r (suc j) y v g n (f ∙ ap (λ m. Port 0 0 (suc m)) e) s (λ _. omega arith)
    node-told l (Whole compound.Select gs arms given outs) ws h i es inner = plain-inner compound.Select gs arms given outs ws tt inner
    node-told l (Whole compound.ForAll gs arms given outs) ws h i es inner = plain-inner compound.ForAll gs arms given outs ws tt inner
    node-told l (Whole compound.LoopA gs arms given outs) ws h i es inner = plain-inner compound.LoopA gs arms given outs ws tt inner
    node-told l (Whole compound.LoopB gs arms given outs) ws h i es inner = plain-inner compound.LoopB gs arms given outs ws tt inner
    node-told l act ws h i es inner = tt

    nodes-told : (n : ℕ) (vs : List LoweredNode) → AreRight p.types (functions p fit) (graph_at p) vs → NodesIn (graph_lines (functions_lowered p)) vs
        → ((i : ℕ) (v : LoweredNode) → slice_get vs i ≡ Some v → filter (to_node (suc (n + i))) (out-Graph x.graph).edges ≡ node_edges p (suc (n + i)) v.action v.ins)
        → ((i : ℕ) (v : LoweredNode) → slice_get vs i ≡ Some v → IsInner v.action v.ins) → AreTold (telling p u) q n vs
    nodes-told n [] r k h inner = tt
    nodes-told n (v ∷ vs) r k h inner =
        let z : n + 0 ≡ n = omega arith in
        let here = subst (λ k. filter (to_node (suc k)) (out-Graph x.graph).edges ≡ node_edges p (suc k) v.action v.ins) z (h 0 v refl) in (
          node-told (suc n) v.action v.ins r.0 k.0.1 here (inner 0 v refl),
          nodes-told (suc n) vs r.1 k.1 (λ i y e. subst (λ k. filter (to_node (suc k)) (out-Graph x.graph).edges ≡ node_edges p (suc k) y.action y.ins) (omega arith) (h (suc i) y e)) (λ i y e. inner (suc i) y e),
        )

  -- the place of a graph of the program
  record Placed (q : ℕ) (d : LoweredGraph) : Type 0 where
    pub place : Place
    pub found : find (λ y. place_number y == q) (places u) ≡ Some place
    pub stands : Stands p u fit t q d place

  placed : (q : ℕ) (d : LoweredGraph) → graph_at p q ≡ Some d → Placed q d
  placed q d h =
      let x = numbered p q d h in
      let f = find-place (whole_listing p) (places u) q x.0 lies (subst (In x.0) (sym heads) x.1) x.2 in
      let c = (found-in (λ (y : Place). place_number y == q) (places u) f.place f.found).0 in
      let st = stands-at p u fit t f.place c in
      let at = subst (λ i. Stands p u fit t i st.0 f.place) f.number st.1 in
      record { place = f.place; found = f.found; stands = subst (λ e. Stands p u fit t q e f.place) (same st.0 (sym at.there ∙ h)) at }
    where
      same : (e : LoweredGraph) → Some e ≡ Some d → e ≡ d
      same e s = cc

  module _ (ready : IsReady u) where
    -- each node of a graph of the program has the shape of its wires
    pub are-told : (q : ℕ) (d : LoweredGraph) → graph_at p q ≡ Some d → AreTold (telling p u) q 0 d.nodes
    are-told q d h =
        let f = placed q d h in
        let right = right-of p fit q d h in
        nodes-told q f.place f.found 0 d.nodes right.0 (in-lines p u fit t q d h).0
        (λ i v s. subst (λ k. filter (to_node k) (out-Graph f.place.graph).edges ≡ node_edges p k v.action v.ins) (omega arith) (ap (λ es. filter (to_node (1 + i)) es) f.stands.edges ∙ edges-at p 1 d.nodes d.results i v (omega arith) s))
        (λ i v s c gs arms given outs e. inner-shows p u fit t ready q d f.place f.stands i c gs arms given outs v.ins (s ∙ ap (λ a. Some (node a v.ins)) e))

    -- a row whose output is used has the shape of what its output shows
    pub record RowTold (g l : ℕ) (k : Showing) : Type 0 where
      pub arrays : shapes u g l simple.ABuild ≡ stream_by k
      pub gathers : shapes u g l simple.AGather ≡ stream_by k
      pub reduces : (r : Grouping) → shapes u g l (simple.Reduce r) ≡ stream_by k
      pub records : shapes u g l simple.RBuild ≡ union_by k

    pub row-told : (g n : ℕ) (c : Carried) → Shows (carried_shows p.types) (graph_uses (graph_at p g)) (Port 0 (suc n) 1) c → RowTold g (suc n) (carried_shows p.types c)
    row-told g n c h = by (graph_at p g) refl h
      where
        by : (o : Option LoweredGraph) → graph_at p g ≡ o → Shows (carried_shows p.types) (graph_uses o) (Port 0 (suc n) 1) c → RowTold g (suc n) (carried_shows p.types c)
        by None e h = absurd h.1
        by (Some d) e h =
            let f = placed g d e in
            let w : Wire = h.0 in
            let o = output-shows p u fit t ready g d f.place f.stands w n h.1 h.2 in
            let shown = sym o.2 ∙ h.3 in
            let streams : stream_shape (first_type u (edges_from f.place.graph (suc n) 1)) ≡ stream_by (carried_shows p.types c) = ap stream_shape o.1 ∙ (stream-shown o.0 ∙ ap stream_by shown) in
            record {
              arrays = ap (λ z. shape_in u z (suc n) simple.ABuild) f.found ∙ streams;
              gathers = ap (λ z. shape_in u z (suc n) simple.AGather) f.found ∙ streams;
              reduces = λ r. ap (λ z. shape_in u z (suc n) (simple.Reduce r)) f.found ∙ streams;
              records = ap (λ z. shape_in u z (suc n) simple.RBuild) f.found ∙ (ap (λ z. union_shape (tags_of z)) o.1 ∙ (union-shown o.0 ∙ ap union_by shown));
            }
