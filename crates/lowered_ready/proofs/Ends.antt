-- The nodes of a graph of a translated unit by label, and the edges into each of them, by the lowered graph.
use Rattle.std.proofs.Common.{◌≡◌, ℕ, zero, suc, ◌+◌, ◌≤◌, ◌⊎◌, inl, inr, cond, List, [], ◌∷◌, ◌++◌, length, slice_get, Option, Some, None, refl, ap, subst, ◌∙◌, arith}
use Rattle.std.specs.Prelude.{filter}
use Rattle.std.proofs.lemmas.Bool.Decides.{eqb_tells}
use Rattle.if1_graph.specs.declared.graph.Edge.{Edge}
use Rattle.if1_graph.specs.declared.graph.Graph.{Graph}
use Rattle.if1_graph.specs.declared.graph.Graph.TheViews.{out-Graph}
use Rattle.if1_graph.specs.declared.graph.Node.{Node}
use Rattle.if1_graph.specs.declared.graph.Origin.{Origin}
use Rattle.if1_graph.specs.Units.{label_of, node_at, edges_into}
use Rattle.typed_tree.specs.declared.program.Program.{Program}
use Rattle.lowering.specs.declared.feed.Wire.{Wire}
use Rattle.lowering.specs.declared.graph.Action.{Action}
use Rattle.lowering.specs.declared.graph.Action.TheVariants.{Row, Call, Whole}
use Rattle.lowering.specs.declared.graph.LoweredNode.{LoweredNode}
use Rattle.lowering.specs.declared.graph.LoweredGraph.{LoweredGraph}
use Rattle.lowering.specs.Types.{label_of as type_label_of}
use Rattle.lowered_units.specs.Units.{origin_of, edge_if, edges_into as block, node_edges, edges_of}
use Rattle.lowered_units.proofs.Blocks.{to_node, edges-at, results-at}
use Rattle.lowered_units.proofs.Named.{Match, match, Standing, standing, none-before, label-at}
use Rattle.lowered_ready.specs.Shapes.{IsGraphOf}

-- ---- a label behind all nodes

abbrev AreOther : ℕ → List Edge → Type 0
AreOther l [] = Unit {0}
AreOther l (e ∷ es) = (e.node ≡ l → ⊥) × AreOther l es

other-both : (l : ℕ) (xs ys : List Edge) → AreOther l xs → AreOther l ys → AreOther l (xs ++ ys)
other-both l [] ys a b = b
other-both l (x ∷ xs) ys a b = (a.0, other-both l xs ys a.1 b)

other-none : (l : ℕ) (es : List Edge) → AreOther l es → filter (to_node l) es ≡ []
other-none l [] h = refl
other-none l (e ∷ es) h =
    elim (eqb_tells e.node l) [
      | inl t ↦ absurd (h.0 t.1)
      | inr f ↦ ap (λ b. cond b (e ∷ filter (to_node l) es) (filter (to_node l) es)) f.0 ∙ other-none l es h.1
    ]

module _ (p : Program) where
  block-other : (l node port : ℕ) (ws : List Wire) → (node ≡ l → ⊥) → AreOther l (block p node port ws)
  block-other l node port [] d = tt
  block-other l node port (w ∷ ws) d = other-both l (edge_if node port (type_label_of p w.ty) (origin_of w.feed)) (block p node (suc port) ws) (one (origin_of w.feed)) (block-other l node (suc port) ws d)
    where
      one : (o : Option Origin) → AreOther l (edge_if node port (type_label_of p w.ty) o)
      one None = tt
      one (Some o) = (d, tt)

  node-other : (l node : ℕ) (a : Action) (ws : List Wire) → (node ≡ l → ⊥) → AreOther l (node_edges p node a ws)
  node-other l node (Row op) ws d = block-other l node 1 ws d
  node-other l node (Call f) ws d = (d, block-other l node 2 ws d)
  node-other l node (Whole c gs arms given outs) ws d = block-other l node 1 ws d

  -- no edge leads to a label behind the nodes
  edges-other : (label : ℕ) (vs : List LoweredNode) (results : List Wire) (l : ℕ) → 1 ≤ l → label + length vs ≤ l → AreOther l (edges_of p label vs results)
  edges-other label [] results l one h = block-other l 0 1 results (λ e. omega (arith, e, one))
  edges-other label (v ∷ vs) results l one h =
      other-both l (node_edges p label v.action v.ins) (edges_of p (suc label) vs results) (node-other l label v.action v.ins (λ e. omega (arith, e, h))) (edges-other (suc label) vs results l one (omega (arith, h)))

  none-after : (label : ℕ) (ns : List Node) (vs : List LoweredNode) → Match label ns vs → (l : ℕ) → label + length vs ≤ l → node_at ns l ≡ None
  none-after label [] [] m l h = refl
  none-after label [] (v ∷ vs) m l h = absurd m
  none-after label (n ∷ ns) [] m l h = absurd m
  none-after label (n ∷ ns) (v ∷ vs) m l h =
      elim (eqb_tells (label_of n) l) [
        | inl t ↦ absurd (omega (arith, t.1, label-at label n v m.0, h))
        | inr f ↦ ap (λ b. cond b (Some n) (node_at ns l)) f.0 ∙ none-after (suc label) ns vs m.1 l (omega (arith, h))
      ]

  -- ---- pairs of nodes

  pair-of : (label : ℕ) (ns : List Node) (vs : List LoweredNode) → Match label ns vs → (i : ℕ) (n : Node) → slice_get ns i ≡ Some n → (v : LoweredNode) × (slice_get vs i ≡ Some v)
  pair-of label [] vs m i n e = absurd cc
  pair-of label (x ∷ ns) [] m i n e = absurd m
  pair-of label (x ∷ ns) (v ∷ vs) m zero n e = (v, refl)
  pair-of label (x ∷ ns) (v ∷ vs) m (suc i) n e = pair-of (suc label) ns vs m.1 i n e

  node-of : (label : ℕ) (ns : List Node) (vs : List LoweredNode) → Match label ns vs → (i : ℕ) (v : LoweredNode) → slice_get vs i ≡ Some v → (n : Node) × (slice_get ns i ≡ Some n)
  node-of label [] [] m i v e = absurd cc
  node-of label [] (y ∷ vs) m i v e = absurd m
  node-of label (x ∷ ns) [] m i v e = absurd m
  node-of label (x ∷ ns) (y ∷ vs) m zero v e = (x, refl)
  node-of label (x ∷ ns) (y ∷ vs) m (suc i) v e = node-of (suc label) ns vs m.1 i v e

  -- ---- the ends of a graph

  module _ (g : Graph) (d : LoweredGraph) (a : IsGraphOf p g d) where
    nodes-match : Match 1 (out-Graph g).nodes d.nodes
    nodes-match = match 1 (out-Graph g).nodes d.nodes a.nodes

    -- a node of the graph, with the lowered node of its place
    pub record IsAtNode (i : ℕ) (n : Node) (v : LoweredNode) : Type 0 where
      pub own : slice_get (out-Graph g).nodes i ≡ Some n
      pub lowered : slice_get d.nodes i ≡ Some v
      pub stands : Standing (out-Graph g).nodes (suc i) n v
      pub label : label_of n ≡ suc i
      pub edges : edges_into g (suc i) ≡ node_edges p (suc i) v.action v.ins

    at-node : (i : ℕ) (n : Node) (v : LoweredNode) → slice_get (out-Graph g).nodes i ≡ Some n → slice_get d.nodes i ≡ Some v → IsAtNode i n v
    at-node i n v e k =
        let one : 1 + i ≡ suc i = omega arith in
        let s = subst (λ l. Standing (out-Graph g).nodes l n v) one (standing 1 (out-Graph g).nodes d.nodes nodes-match i n v e k) in
        record {
          own = e;
          lowered = k;
          stands = s;
          label = label-at (suc i) n v s.listed;
          edges = ap (λ es. filter (to_node (suc i)) es) a.edges ∙ subst (λ l. filter (to_node l) (edges_of p 1 d.nodes d.results) ≡ node_edges p l v.action v.ins) one (edges-at p 1 d.nodes d.results i v (omega arith) k);
        }

    pub lowered-node : (i : ℕ) (n : Node) → slice_get (out-Graph g).nodes i ≡ Some n → (v : LoweredNode) × IsAtNode i n v
    lowered-node i n e = let v = pair-of 1 (out-Graph g).nodes d.nodes nodes-match i n e in (v.0, at-node i n v.0 e v.1)

    pub own-node : (i : ℕ) (v : LoweredNode) → slice_get d.nodes i ≡ Some v → (n : Node) × IsAtNode i n v
    own-node i v e = let n = node-of 1 (out-Graph g).nodes d.nodes nodes-match i v e in (n.0, at-node i n.0 v n.1 e)

    pub no-boundary-node : node_at (out-Graph g).nodes 0 ≡ None
    no-boundary-node = none-before 1 (out-Graph g).nodes d.nodes nodes-match 0 (omega arith)

    pub boundary-edges : edges_into g 0 ≡ block p 0 1 d.results
    boundary-edges = ap (λ es. filter (to_node 0) es) a.edges ∙ results-at p 1 d.nodes d.results (omega arith)

    -- a label of no node
    pub record IsNowhere (l : ℕ) : Type 0 where
      pub no_node : node_at (out-Graph g).nodes l ≡ None
      pub no_edges : edges_into g l ≡ []

    abbrev pub IsEnd : ℕ → Type 0
    IsEnd i = ((n : Node) × (v : LoweredNode) × IsAtNode i n v) ⊎ IsNowhere (suc i)

    past : (vs : List LoweredNode) (i : ℕ) → slice_get vs i ≡ None → length vs ≤ i
    past [] i e = omega arith
    past (v ∷ vs) zero e = absurd cc
    past (v ∷ vs) (suc i) e = omega (arith, past vs i e)

    -- each label but that of the boundary is one of a node, or nothing leads there
    pub end-at : (i : ℕ) → IsEnd i
    end-at i = by (slice_get d.nodes i) refl
      where
        by : (o : Option LoweredNode) → slice_get d.nodes i ≡ o → IsEnd i
        by None e =
            let behind = past d.nodes i e in
            inr (record {
              no_node = none-after 1 (out-Graph g).nodes d.nodes nodes-match (suc i) (omega (arith, behind));
              no_edges = ap (λ es. filter (to_node (suc i)) es) a.edges ∙ other-none (suc i) (edges_of p 1 d.nodes d.results) (edges-other 1 d.nodes d.results (suc i) (omega arith) (omega (arith, behind)));
            })
        by (Some v) e = let n = own-node i v e in inl (n.0, v, n.1)
