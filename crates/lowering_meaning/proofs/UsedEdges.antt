-- The edge of each port of a node or input that a lowered graph uses, and what is known of what it carries.
use Rattle.std.proofs.Common.{◌≡◌, ℕ, zero, suc, ◌+◌, ◌<◌, inl, inr, cond, List, [], ◌∷◌, ◌++◌, slice_get, Option, Some, None, refl, sym, ap, subst, ◌∙◌, arith}
use Rattle.std.specs.Prelude.{find}
use Rattle.std.proofs.lemmas.Bool.Decides.{eqb_tells}
use Rattle.if1_graph.specs.declared.graph.Edge.{Edge}
use Rattle.if1_graph.specs.declared.graph.Origin.{Origin}
use Rattle.if1_graph.specs.declared.graph.Origin.TheVariants as origin
use Rattle.if1_graph.specs.declared.op.Compound.TheVariants as compound
use Rattle.typed_tree.specs.declared.program.Program.{Program}
use Rattle.lowering.specs.declared.feed.Feed.{Feed}
use Rattle.lowering.specs.declared.feed.Feed.TheVariants.{Literal, Named, Absent, Port}
use Rattle.lowering.specs.declared.feed.Carried.{Carried}
use Rattle.lowering.specs.declared.feed.Wire.{Wire}
use Rattle.lowering.specs.declared.graph.Action.{Action}
use Rattle.lowering.specs.declared.graph.Action.TheVariants.{Row, Call, Whole}
use Rattle.lowering.specs.declared.graph.LoweredNode.{LoweredNode}
use Rattle.lowering.specs.declared.graph.LoweredGraph.{LoweredGraph}
use Rattle.lowering.specs.Graphs.{used_by, used, graph_lines}
use Rattle.lowering.specs.Programs.{functions_lowered, graph_at}
use Rattle.lowering.specs.Types.{label_of}
use Rattle.lowered_units.specs.Units.{constant_text, origin_of, edge, edge_if, edges_into, node_edges, edges_of}
use Rattle.lowered_units.proofs.Blocks.{to_port}
use Rattle.lowered_units.proofs.Built.{IsValueType, IsGap, IsGoodFeed, AreGood, AreFilled, Fills, fills_row, fills_reduction, fills_call}
use Rattle.lowered_units.proofs.Heads.{In, in-left, in-right}
use Rattle.lowered_units.proofs.Lined.{WiresIn, NodesIn, IsGraphIn}
use Rattle.lowered_units.proofs.Rights.{IsRightNode, AreRight, IsRightGraph}
use Rattle.lowering_meaning.proofs.Wires as wires

-- ---- wires that nodes use

either : {A : Type 0} (w : Wire) (ws xs : List Wire) → wires.In w (ws ++ xs) → (wires.In w ws → A) → (wires.In w xs → A) → A
either w [] xs n f g = g n
either w (x ∷ ws) xs (inl e) f g = f (inl e)
either w (x ∷ ws) xs (inr n) f g = either w ws xs n (λ k. f (inr k)) g

-- what a node uses fills one of its ports
ins-in : (a : Action) (w : Wire) (ws : List Wire) → wires.In w (used_by a ws) → wires.In w ws
ins-in (Row op) w ws n = n
ins-in (Call f) w ws n = n
ins-in (Whole compound.ForAll gs arms given outs) w ws n = n
ins-in (Whole compound.Select gs arms given outs) w ws n = n
ins-in (Whole compound.LoopA gs arms given outs) w ws n = n
ins-in (Whole compound.LoopB gs arms given outs) w ws n = n
ins-in (Whole compound.TagCase gs arms given outs) w [] n = n
ins-in (Whole compound.TagCase gs arms given outs) w (x ∷ ws) n = either w ws (x ∷ []) n (λ k. inr k) (λ k. one k)
  where
    one : wires.In w (x ∷ []) → wires.In w (x ∷ ws)
    one (inl e) = inl e
    one (inr k) = absurd k

-- by the node that uses it
by-node : {A : Type 0} (v : LoweredNode) (vs : List LoweredNode) (rs : List Wire) (w : Wire) → wires.In w (used (v ∷ vs) ++ rs) → (wires.In w v.ins → A) → (wires.In w (used vs ++ rs) → A) → A
by-node v vs rs w n f g =
    either w (used_by v.action v.ins ++ used vs) rs n
    (λ k. either w (used_by v.action v.ins) (used vs) k (λ i. f (ins-in v.action w v.ins i)) (λ i. g (wires.in-left w (used vs) rs i)))
    (λ k. g (wires.in-right w (used vs) rs k))

module _ (p : Program) where
  -- ---- edges

  -- an edge from this port, with the label of what the wire carries
  pub record EdgeFor (es : List Edge) (w : Wire) (n r : ℕ) : Type 0 where
    pub edge : Edge
    pub found : In edge es
    pub from : edge.from ≡ origin.Port n r
    pub ty : edge.ty ≡ label_of p w.ty

  edge-left : (es fs : List Edge) (w : Wire) (n r : ℕ) → EdgeFor es w n r → EdgeFor (es ++ fs) w n r
  edge-left es fs w n r k = record { edge = k.edge; found = in-left k.edge es fs k.found; from = k.from; ty = k.ty }

  edge-right : (es fs : List Edge) (w : Wire) (n r : ℕ) → EdgeFor fs w n r → EdgeFor (es ++ fs) w n r
  edge-right es fs w n r k = record { edge = k.edge; found = in-right k.edge es fs k.found; from = k.from; ty = k.ty }

  filled-edge : (node port : ℕ) (ws : List Wire) (w : Wire) (n r : ℕ) → wires.In w ws → w.feed ≡ Port 0 n r → EdgeFor (edges_into p node port ws) w n r
  filled-edge node port [] w n r i e = absurd i
  filled-edge node port (x ∷ ws) w n r (inl h) e =
      edge-left (edge_if node port (label_of p x.ty) (origin_of x.feed)) (edges_into p node (suc port) ws) w n r
      (subst (λ (y : Wire). EdgeFor (edge_if node port (label_of p y.ty) (origin_of y.feed)) w n r) (sym h)
      (subst (λ f. EdgeFor (edge_if node port (label_of p w.ty) (origin_of f)) w n r) (sym e) (record { edge = edge node port (label_of p w.ty) (origin.Port n r); found = inl refl; from = refl; ty = refl })))
  filled-edge node port (x ∷ ws) w n r (inr i) e =
      edge-right (edge_if node port (label_of p x.ty) (origin_of x.feed)) (edges_into p node (suc port) ws) w n r (filled-edge node (suc port) ws w n r i e)

  node-edge : (label : ℕ) (a : Action) (ws : List Wire) (w : Wire) (n r : ℕ) → wires.In w ws → w.feed ≡ Port 0 n r → EdgeFor (node_edges p label a ws) w n r
  node-edge label (Row op) ws w n r i e = filled-edge label 1 ws w n r i e
  node-edge label (Call f) ws w n r i e = let k = filled-edge label 2 ws w n r i e in record { edge = k.edge; found = inr k.found; from = k.from; ty = k.ty }
  node-edge label (Whole c gs arms given outs) ws w n r i e = filled-edge label 1 ws w n r i e

  pub used-edge : (label : ℕ) (vs : List LoweredNode) (rs : List Wire) (w : Wire) (n r : ℕ) → wires.In w (used vs ++ rs) → w.feed ≡ Port 0 n r → EdgeFor (edges_of p label vs rs) w n r
  used-edge label [] rs w n r i e = filled-edge 0 1 rs w n r i e
  used-edge label (v ∷ vs) rs w n r i e =
      by-node v vs rs w i
      (λ k. edge-left (node_edges p label v.action v.ins) (edges_of p (suc label) vs rs) w n r (node-edge label v.action v.ins w n r k e))
      (λ k. edge-right (node_edges p label v.action v.ins) (edges_of p (suc label) vs rs) w n r (used-edge (suc label) vs rs w n r k e))

  -- ---- the edge into a port

  find-skips : (o : Option Origin) (node k ty j : ℕ) (es : List Edge) → k < j → find (to_port j) (edge_if node k ty o ++ es) ≡ find (to_port j) es
  find-skips None node k ty j es h = refl
  find-skips (Some o) node k ty j es h =
      elim (eqb_tells k j) [
        | inl t ↦ absurd (omega (arith, t.1, h))
        | inr f ↦ ap (λ b. cond b (Some (edge node k ty o)) (find (to_port j) es)) f.0
      ]

  find-here : (node k j ty : ℕ) (o : Origin) (es : List Edge) → k ≡ j → find (to_port j) (edge node k ty o ∷ es) ≡ Some (edge node k ty o)
  find-here node k j ty o es h =
      elim (eqb_tells k j) [
        | inl t ↦ ap (λ b. cond b (Some (edge node k ty o)) (find (to_port j) es)) t.0
        | inr f ↦ absurd (f.1 h)
      ]

  module _ (functions : ℕ) where
    has-origin : (f : Feed) (t : Carried) → IsGoodFeed p.types functions f t → (o : Origin) × (origin_of f ≡ Some o)
    has-origin (Literal c) t h = (origin.Lit (constant_text c), refl)
    has-origin (Port up n q) t h = (origin.Port n q, refl)
    has-origin (Named s) t h = absurd h
    has-origin Absent t h = absurd h

    pub port-edge : (node k : ℕ) (ws : List Wire) (j : ℕ) (x : Wire) → AreGood p.types functions ws → slice_get ws j ≡ Some x → (i : ℕ) → i ≡ k + j
        → (e : Edge) × (find (to_port i) (edges_into p node k ws) ≡ Some e) × (e.ty ≡ label_of p x.ty)
    port-edge node k [] j x g s i n = absurd cc
    port-edge node k (w ∷ ws) zero x g s i n =
        let o = has-origin w.feed w.ty g.0 in
        let is : k ≡ i = omega (arith, n) in (
          edge node k (label_of p w.ty) o.0,
          ap (λ z. find (to_port i) (edge_if node k (label_of p w.ty) z ++ edges_into p node (suc k) ws)) o.1 ∙ find-here node k i (label_of p w.ty) o.0 (edges_into p node (suc k) ws) is,
          ap (λ (y : Wire). label_of p y.ty) (same s),
        )
      where
        same : Some w ≡ Some x → w ≡ x
        same e = cc
    port-edge node k (w ∷ ws) (suc j) x g s i n =
        let r = port-edge node (suc k) ws j x g.1 s i (omega (arith, n)) in
        (r.0, find-skips (origin_of w.feed) node k (label_of p w.ty) i (edges_into p node (suc k) ws) (omega (arith, n)) ∙ r.1, r.2)

    -- ---- what is known of what is carried

    -- a value or a multiple of a type, which a line of the text has
    pub record IsKnown (c : Carried) : Type 0 where
      pub value : IsValueType p.types functions c
      pub line : In c (graph_lines (functions_lowered p))

    port-value : (f : Feed) (c : Carried) (n r : ℕ) → f ≡ Port 0 n r → IsGoodFeed p.types functions f c → IsValueType p.types functions c
    port-value f c n r e h = (subst (λ f. IsGoodFeed p.types functions f c) e h).1

    no-gap : (f : Feed) (n r : ℕ) → f ≡ Port 0 n r → IsGap f → ⊥
    no-gap f n r e h = subst IsGap e h

    good-value : (ws : List Wire) (w : Wire) (n r : ℕ) → AreGood p.types functions ws → wires.In w ws → w.feed ≡ Port 0 n r → IsValueType p.types functions w.ty
    good-value [] w n r h i e = absurd i
    good-value (x ∷ ws) w n r h (inl s) e = port-value w.feed w.ty n r e (subst (λ (y : Wire). IsGoodFeed p.types functions y.feed y.ty) s h.0)
    good-value (x ∷ ws) w n r h (inr i) e = good-value ws w n r h.1 i e

    filled-value : (ws : List Wire) (w : Wire) (n r : ℕ) → AreFilled p.types functions ws → wires.In w ws → w.feed ≡ Port 0 n r → IsValueType p.types functions w.ty
    filled-value [] w n r h i e = absurd i
    filled-value (x ∷ []) w n r h (inl s) e = port-value w.feed w.ty n r e (subst (λ (y : Wire). IsGoodFeed p.types functions y.feed y.ty) s h)
    filled-value (x ∷ []) w n r h (inr i) e = absurd i
    filled-value (x ∷ y ∷ ws) w n r h (inl s) e =
        elim h.0 [
          | inl g ↦ port-value w.feed w.ty n r e (subst (λ (y : Wire). IsGoodFeed p.types functions y.feed y.ty) s g)
          | inr g ↦ absurd (no-gap w.feed n r e (subst (λ (y : Wire). IsGap y.feed) s g))
        ]
    filled-value (x ∷ y ∷ ws) w n r h (inr i) e = filled-value (y ∷ ws) w n r h.1 i e

    fills-value : (a : Action) (ws : List Wire) (w : Wire) (n r : ℕ) → Fills p.types functions a ws → wires.In w ws → w.feed ≡ Port 0 n r → IsValueType p.types functions w.ty
    fills-value _ _ w n r (fills_row op ws h k) i e = filled-value ws w n r k i e
    fills-value _ _ w n r (fills_reduction g name ws h k) (inl s) e = absurd (other name (ap (λ (y : Wire). y.feed) s ∙ e))
      where
        other : (name : List ℕ) → Named name ≡ Port 0 n r → ⊥
        other name e = absurd cc
    fills-value _ _ w n r (fills_reduction g name ws h k) (inr i) e = good-value ws w n r k i e
    fills-value _ _ w n r (fills_call f ws h k) i e = good-value ws w n r k i e

    node-value : (a : Action) (ws : List Wire) (w : Wire) (n r : ℕ) → IsRightNode p.types functions (graph_at p) a ws → wires.In w ws → w.feed ≡ Port 0 n r → IsValueType p.types functions w.ty
    node-value (Row op) ws w n r h i e = fills-value (Row op) ws w n r h i e
    node-value (Call f) ws w n r h i e = fills-value (Call f) ws w n r h i e
    node-value (Whole c gs arms given outs) ws w n r h i e = good-value ws w n r h.0 i e

    pub wire-lined : (l : List Carried) (ws : List Wire) (w : Wire) (n r : ℕ) → WiresIn l ws → wires.In w ws → w.feed ≡ Port 0 n r → In w.ty l
    wire-lined l [] w n r h i e = absurd i
    wire-lined l (x ∷ ws) w n r h (inl s) e =
        elim h.0 [
          | inl g ↦ absurd (no-gap w.feed n r e (subst (λ (y : Wire). IsGap y.feed) s g))
          | inr k ↦ subst (λ (y : Wire). In y.ty l) s k
        ]
    wire-lined l (x ∷ ws) w n r h (inr i) e = wire-lined l ws w n r h.1 i e

    known-in : (vs : List LoweredNode) (rs : List Wire) (w : Wire) (n r : ℕ) → AreRight p.types functions (graph_at p) vs → AreGood p.types functions rs → NodesIn (graph_lines (functions_lowered p)) vs → WiresIn (graph_lines (functions_lowered p)) rs
        → wires.In w (used vs ++ rs) → w.feed ≡ Port 0 n r → IsKnown w.ty
    known-in [] rs w n r a g b l i e = record { value = good-value rs w n r g i e; line = wire-lined (graph_lines (functions_lowered p)) rs w n r l i e }
    known-in (v ∷ vs) rs w n r a g b l i e =
        by-node v vs rs w i
        (λ k. record { value = node-value v.action v.ins w n r a.0 k e; line = wire-lined (graph_lines (functions_lowered p)) v.ins w n r b.0.1 k e })
        (λ k. known-in vs rs w n r a.1 g b.1 l k e)

    pub known : (d : LoweredGraph) (w : Wire) (n r : ℕ) → IsRightGraph p.types functions (graph_at p) d → IsGraphIn (graph_lines (functions_lowered p)) d → wires.In w (used d.nodes ++ d.results) → w.feed ≡ Port 0 n r → IsKnown w.ty
    known d w n r a b i e = known-in d.nodes d.results w n r a.0 a.1 b.0 b.1 i e
