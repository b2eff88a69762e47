-- Each graph of a translated unit is in order, and so no node reaches itself.
use Rattle.std.proofs.Common.{◌≡◌, ℕ, zero, suc, ◌<◌, ◌≤◌, inl, List, [], ◌∷◌, length, slice_get, Some, refl, sym, ap, subst, arith}
use Rattle.std.specs.Prelude.{All}
use Rattle.std.proofs.lemmas.List.{length-map}
use Rattle.std.proofs.lemmas.List.Elements.{All-nil, All-cons, All-append, All-contains, All-weaker}
use Rattle.if1_graph.specs.declared.graph.Edge.{Edge}
use Rattle.if1_graph.specs.declared.graph.Graph.{Graph}
use Rattle.if1_graph.specs.declared.graph.Graph.TheViews.{out-Graph}
use Rattle.if1_graph.specs.declared.graph.Origin.{Origin}
use Rattle.if1_graph.specs.declared.graph.Origin.TheVariants as origin
use Rattle.if1_graph.specs.declared.graph.Unit1.{Unit1}
use Rattle.if1_graph.specs.Cycles.{IsFrom, Feeds, Reaches, edge, path}
use Rattle.if1_graph.specs.Ports.{count_from}
use Rattle.if1_graph.specs.Ready.{IsAcyclic, IsOrdered as HasNoCycle}
use Rattle.if1_graph.specs.Units.{label_of, most_levels, Place, places, ends}
use Rattle.typed_tree.specs.declared.program.Program.{Program}
use Rattle.lowering.specs.declared.feed.Feed.{Feed}
use Rattle.lowering.specs.declared.feed.Feed.TheVariants.{Literal, Named, Absent, Port}
use Rattle.lowering.specs.declared.feed.Wire.{Wire}
use Rattle.lowering.specs.declared.graph.Action.{Action}
use Rattle.lowering.specs.declared.graph.Action.TheVariants.{Row, Call, Whole}
use Rattle.lowering.specs.declared.graph.LoweredNode.{LoweredNode}
use Rattle.lowering.specs.declared.graph.LoweredGraph.{LoweredGraph}
use Rattle.lowering.specs.Programs.{graphs, graph_at}
use Rattle.lowering.specs.Types.{label_of as type_label}
use Rattle.lowered_units.specs.Listed.{all_of}
use Rattle.lowered_units.specs.Units.{edge_if, edges_into, node_edges, edges_of, origin_of, IsTranslated}
use Rattle.lowered_units.proofs.Entries.{whole_listing, entry}
use Rattle.lowered_units.proofs.Heads.{In, listing-is, Lie, unit-lies, all-within}
use Rattle.lowered_units.proofs.Named.{match}
use Rattle.lowered_units.proofs.OneUnit.{head_of}
use Rattle.lowered_units.proofs.Ordered.{labels-are}
use Rattle.lowered_ready.specs.OrderLaws.{IsEarlier, IsGraphInOrder}
use Rattle.lowered_ready.proofs.Before.{IsBefore, AreBefore, NodesBefore, IsOrdered, AreOrdered}
use Rattle.lowered_ready.proofs.OrderTrees.{program-ordered}

-- ---- a path leads to greater labels

feeds-later : (g : Graph) → IsGraphInOrder g → (l m : ℕ) → Feeds g l m → l < m
feeds-later g h l m f = by f.edge.from f.edge.node f.source f.target f.no_boundary (All-contains (λ e. IsEarlier (length (out-Graph g).nodes) e.from e.node) (out-Graph g).edges f.edge h f.there)
  where
    by : (o : Origin) (node : ℕ) → IsFrom l o → node ≡ m → (m ≡ 0 → ⊥) → IsEarlier (length (out-Graph g).nodes) o node → l < m
    by (origin.Lit text) node s t z k = absurd s
    by (origin.Port zero port) node s t z k = absurd s
    by (origin.Port (suc x) port) zero s t z k = absurd (z (sym t))
    by (origin.Port (suc x) port) (suc label) s t z k = omega (arith, s, t, k)

reaches-later : (g : Graph) → IsGraphInOrder g → (l m : ℕ) → Reaches g l m → l < m
reaches-later g h _ _ (edge {l = l} {m = m} f) = feeds-later g h l m f
reaches-later g h _ _ (path {l = l} {m = m} {n = n} f r) =
    let here = feeds-later g h l m f in
    let rest = reaches-later g h m n r in
    omega (arith, here, rest)

no-cycle : (x : Place) → IsGraphInOrder x.graph → (l : ℕ) → HasNoCycle x l
no-cycle x h l r = let k = reaches-later x.graph h l l r in omega (arith, k)

-- ---- edges come from what stands before

module _ (p : Program) (most : ℕ) where
  abbrev Earlier : Edge → Type 0
  Earlier e = IsEarlier most e.from e.node

  -- so many nodes before what an edge leads to
  abbrev Behind : ℕ → ℕ → Type 0
  Behind n zero = n ≤ most
  Behind n (suc label) = n ≤ label

  one-earlier : (n node port ty : ℕ) → Behind n node → (f : Feed) → IsBefore (n ∷ []) f → All Earlier (edge_if node port ty (origin_of f))
  one-earlier n node port ty b (Literal c) h = All-cons Earlier _ [] tt (All-nil Earlier)
  one-earlier n node port ty b (Named s) h = All-cons Earlier _ [] tt (All-nil Earlier)
  one-earlier n node port ty b Absent h = All-nil Earlier
  one-earlier n zero port ty b (Port zero m q) h = All-cons Earlier _ [] (omega (arith, b, h)) (All-nil Earlier)
  one-earlier n (suc label) port ty b (Port zero m q) h = All-cons Earlier _ [] (omega (arith, b, h)) (All-nil Earlier)
  one-earlier n node port ty b (Port (suc up) m q) h = absurd h

  block-earlier : (n node port : ℕ) → Behind n node → (ws : List Wire) → AreBefore (n ∷ []) ws → All Earlier (edges_into p node port ws)
  block-earlier n node port b [] h = All-nil Earlier
  block-earlier n node port b (w ∷ ws) h =
      All-append Earlier (edge_if node port (type_label p w.ty) (origin_of w.feed)) (edges_into p node (suc port) ws) (one-earlier n node port (type_label p w.ty) b w.feed h.0) (block-earlier n node (suc port) b ws h.1)

  node-earlier : (n : ℕ) (a : Action) (ws : List Wire) → AreBefore (n ∷ []) ws → All Earlier (node_edges p (suc n) a ws)
  node-earlier n (Row op) ws h = block-earlier n (suc n) 1 (omega arith) ws h
  node-earlier n (Call f) ws h = All-cons Earlier _ (edges_into p (suc n) 2 ws) tt (block-earlier n (suc n) 2 (omega arith) ws h)
  node-earlier n (Whole c gs arms given outs) ws h = block-earlier n (suc n) 1 (omega arith) ws h

  edges-earlier : (n k : ℕ) (vs : List LoweredNode) (results : List Wire) → NodesBefore [] n vs → AreBefore (k ∷ []) results → k ≤ most → All Earlier (edges_of p (suc n) vs results)
  edges-earlier n k [] results h r l = block-earlier k 0 1 l results r
  edges-earlier n k (v ∷ vs) results h r l =
      All-append Earlier (node_edges p (suc n) v.action v.ins) (edges_of p (suc (suc n)) vs results) (node-earlier n v.action v.ins h.0) (edges-earlier (suc n) k vs results h.1 r l)

-- ---- the unit

size-of : (l n : ℕ) → length (count_from l n) ≡ n
size-of l zero = refl
size-of l (suc n) = ap suc (size-of (suc l) n)

ordered-at : (ds : List LoweredGraph) (i : ℕ) (d : LoweredGraph) → AreOrdered ds → slice_get ds i ≡ Some d → IsOrdered d
ordered-at [] i d h e = absurd cc
ordered-at (x ∷ ds) zero d h e = subst IsOrdered (same e) h.0
  where
    same : Some x ≡ Some d → x ≡ d
    same e = cc
ordered-at (x ∷ ds) (suc i) d h e = ordered-at ds i d h.1 e

-- the lowered graph of a number
pub ordered-of : (p : Program) (q : ℕ) (d : LoweredGraph) → graph_at p q ≡ Some d → IsOrdered d
ordered-of p zero d e = absurd cc
ordered-of p (suc q) d e = ordered-at (graphs p) q d (program-ordered p) e

module _ (p : Program) (u : Unit1) (t : IsTranslated p u) where
  in-order : (x : Place) → In (head_of x.graph) (whole_listing p) → IsGraphInOrder x.graph
  in-order x h =
      let g = x.graph in
      let e = entry p (head_of g) h in
      let d = e.graph in
      let o = ordered-of p (out-Graph g).number d e.there in
      let labels = labels-are 1 (out-Graph g).nodes d.nodes (match 1 (out-Graph g).nodes d.nodes e.nodes) in
      let size : length d.nodes ≤ length (out-Graph g).nodes = omega (arith, length-map (out-Graph g).nodes label_of, ap length labels, size-of 1 (length d.nodes)) in
      subst (All (λ e. IsEarlier (length (out-Graph g).nodes) e.from e.node)) (sym e.edges) (edges-earlier p (length (out-Graph g).nodes) 0 (length d.nodes) d.nodes d.results o.nodes o.results size)

  each-in-order : (ps : List Place) → Lie (whole_listing p) ps → All (λ (x : Place). IsGraphInOrder x.graph) ps
  each-in-order [] l = All-nil (λ (x : Place). IsGraphInOrder x.graph)
  each-in-order (x ∷ ps) l =
      All-cons (λ (x : Place). IsGraphInOrder x.graph) x ps (in-order x (l.0 (head_of x.graph) (subst (In (head_of x.graph)) (sym (listing-is x.graph)) (inl refl)))) (each-in-order ps l.1)

  pub all-in-order : All (λ (x : Place). IsGraphInOrder x.graph) (places u)
  all-in-order = each-in-order (places u) (unit-lies most_levels 0 (whole_listing p) u.graphs (λ g i x k. subst (In x) (ap all_of t.graphs) (all-within u.graphs g i x k)))

  pub acyclic : IsAcyclic u
  acyclic = All-weaker (λ (x : Place). IsGraphInOrder x.graph) (λ (x : Place). All (HasNoCycle x) (ends x.graph)) (λ x h k d i. no-cycle x h _) (places u) all-in-order
