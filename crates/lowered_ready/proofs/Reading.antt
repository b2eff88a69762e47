-- What leads to the ports of a graph of a unit, by the wires of its lowered graph.
use Rattle.std.proofs.Common.{◌≡◌, ℕ, zero, suc, ◌+◌, ◌<◌, inl, inr, cond, List, [], ◌∷◌, ◌++◌, map, length, slice_get, Option, Some, None, refl, ap, subst, ◌∙◌, arith, option_map}
use Rattle.std.specs.Prelude.{find}
use Rattle.std.proofs.lemmas.Bool.Decides.{eqb_tells}
use Rattle.if1_graph.specs.declared.graph.Edge.{Edge}
use Rattle.if1_graph.specs.declared.graph.Graph.{Graph}
use Rattle.if1_graph.specs.declared.graph.Graph.TheViews.{out-Graph}
use Rattle.if1_graph.specs.declared.graph.Node.{Node}
use Rattle.if1_graph.specs.declared.graph.Origin.{Origin}
use Rattle.if1_graph.specs.declared.graph.Origin.TheVariants as origin
use Rattle.if1_graph.specs.declared.graph.Unit1.{Unit1}
use Rattle.if1_graph.specs.Tables.{◌>>=◌, at_port}
use Rattle.if1_graph.specs.Types.{Sort, sort_at}
use Rattle.if1_graph.specs.Ports.{carried, literal_at, text_of, count_from}
use Rattle.if1_graph.specs.Units.{greatest, edge_into, ports_into, results}
use Rattle.typed_tree.specs.declared.program.Program.{Program}
use Rattle.lowering.specs.declared.feed.Feed.{Feed}
use Rattle.lowering.specs.declared.feed.Feed.TheVariants.{Literal, Named, Absent, Port}
use Rattle.lowering.specs.declared.feed.Carried.{Carried}
use Rattle.lowering.specs.declared.feed.Carried.TheVariants.{Callee}
use Rattle.lowering.specs.declared.feed.Wire.{Wire}
use Rattle.lowering.specs.declared.graph.Action.{Action}
use Rattle.lowering.specs.declared.graph.Action.TheVariants.{Row, Call, Whole}
use Rattle.lowering.specs.declared.graph.LoweredNode.{LoweredNode}
use Rattle.lowering.specs.declared.graph.LoweredGraph.{LoweredGraph}
use Rattle.lowering.specs.Types.{label_of}
use Rattle.lowered_units.specs.Units.{constant_text, origin_of, edge, edge_if, edges_into, node_edges, called_name}
use Rattle.lowered_units.proofs.Blocks.{to_port, find-filtered}
use Rattle.lowered_ready.specs.Ports.{filled_if, filled_from, filled, sort_if, sort_in, sort_into}
use Rattle.lowered_ready.specs.Parts.{IsShown}
use Rattle.lowered_ready.specs.Shapes.{IsGraphOf}
use Rattle.lowered_ready.proofs.Ends.{IsAtNode, boundary-edges}

-- what the text at a port is
abbrev pub text_in : Feed → Option (List ℕ)
text_in (Literal c) = Some (constant_text c)
text_in (Named s) = Some s
text_in Absent = None
text_in (Port up n q) = None

-- ---- filled ports

abbrev pub AreShown : List Wire → Type 0
AreShown [] = Unit {0}
AreShown (w ∷ ws) = IsShown w.feed × AreShown ws

pub shown-ports : (k : ℕ) (ws : List Wire) → AreShown ws → filled_from k ws ≡ count_from k (length ws)
shown-ports k [] h = refl
shown-ports k (w ∷ ws) h = ap (λ l. l ++ filled_from (suc k) ws) (one w.feed h.0) ∙ ap (λ l. k ∷ l) (shown-ports (suc k) ws h.1)
  where
    one : (f : Feed) → IsShown f → filled_if k f ≡ k ∷ []
    one (Literal c) h = refl
    one (Named s) h = absurd h
    one Absent h = absurd h
    one (Port up n q) h = refl

greatest-count : (k n : ℕ) → greatest (count_from (suc k) (suc n)) ≡ k + suc n
greatest-count k zero = omega arith
greatest-count k (suc n) = let rest = greatest-count (suc k) n in omega (arith, rest)

pub greatest-first : (n : ℕ) → greatest (count_from 1 n) ≡ n
greatest-first zero = refl
greatest-first (suc n) = greatest-count 0 n ∙ omega arith

module _ (p : Program) where
  -- the edge into a port that a wire fills
  abbrev pub made : ℕ → ℕ → Wire → Option Edge
  made node port w = option_map (edge node port (label_of p w.ty)) (origin_of w.feed)

  abbrev pub made_into : ℕ → Action → List Wire → ℕ → Option Edge
  made_into node (Call f) ws zero = None
  made_into node (Call f) ws (suc zero) = Some (edge node 1 (label_of p (Callee f)) (origin.Lit (called_name p (slice_get p.functions f))))
  made_into node (Call f) ws (suc (suc j)) = slice_get ws j >>= made node (suc (suc j))
  made_into node a ws port = at_port port ws >>= made node port

  -- ---- one edge

  find-here : (node k port ty : ℕ) (o : Origin) (es : List Edge) → k ≡ port → find (to_port port) (edge node k ty o ∷ es) ≡ Some (edge node port ty o)
  find-here node k port ty o es h =
      elim (eqb_tells k port) [
        | inl t ↦ ap (λ b. cond b (Some (edge node k ty o)) (find (to_port port) es)) t.0 ∙ ap (λ i. Some (edge node i ty o)) h
        | inr f ↦ absurd (f.1 h)
      ]

  find-skips : (node k port ty : ℕ) (o : Option Origin) (es : List Edge) → (k ≡ port → ⊥) → find (to_port port) (edge_if node k ty o ++ es) ≡ find (to_port port) es
  find-skips node k port ty None es h = refl
  find-skips node k port ty (Some o) es h =
      elim (eqb_tells k port) [
        | inl t ↦ absurd (h t.1)
        | inr f ↦ ap (λ b. cond b (Some (edge node k ty o)) (find (to_port port) es)) f.0
      ]

  find-before : (node k port : ℕ) (ws : List Wire) → port < k → find (to_port port) (edges_into p node k ws) ≡ None
  find-before node k port [] h = refl
  find-before node k port (w ∷ ws) h =
      find-skips node k port (label_of p w.ty) (origin_of w.feed) (edges_into p node (suc k) ws) (λ e. omega (arith, e, h)) ∙ find-before node (suc k) port ws (omega (arith, h))

  find-block : (node k j port : ℕ) (ws : List Wire) → port ≡ k + j → find (to_port port) (edges_into p node k ws) ≡ (slice_get ws j >>= made node port)
  find-block node k j port [] e = refl
  find-block node k zero port (w ∷ ws) e = by (origin_of w.feed)
    where
      by : (o : Option Origin) → find (to_port port) (edge_if node k (label_of p w.ty) o ++ edges_into p node (suc k) ws) ≡ option_map (edge node port (label_of p w.ty)) o
      by None = find-before node (suc k) port ws (omega (arith, e))
      by (Some o) = find-here node k port (label_of p w.ty) o (edges_into p node (suc k) ws) (omega (arith, e))
  find-block node k (suc j) port (w ∷ ws) e =
      find-skips node k port (label_of p w.ty) (origin_of w.feed) (edges_into p node (suc k) ws) (λ h. omega (arith, h, e)) ∙ find-block node (suc k) j port ws (omega (arith, e))

  find-ports : (node port : ℕ) (ws : List Wire) → find (to_port port) (edges_into p node 1 ws) ≡ (at_port port ws >>= made node port)
  find-ports node zero ws = find-before node 1 0 ws (omega arith)
  find-ports node (suc j) ws = find-block node 1 j (suc j) ws (omega arith)

  find-node : (node : ℕ) (a : Action) (ws : List Wire) (port : ℕ) → find (to_port port) (node_edges p node a ws) ≡ made_into node a ws port
  find-node node (Row op) ws port = find-ports node port ws
  find-node node (Whole c gs arms given outs) ws port = find-ports node port ws
  find-node node (Call f) ws zero = find-before node 2 0 ws (omega arith)
  find-node node (Call f) ws (suc zero) = refl
  find-node node (Call f) ws (suc (suc j)) =
      find-skips node 1 (suc (suc j)) (label_of p (Callee f)) (Some (origin.Lit (called_name p (slice_get p.functions f)))) (edges_into p node 2 ws) (λ e. omega (arith, e))
      ∙ find-block node 2 j (suc (suc j)) ws (omega arith)

  -- ---- all ports

  block-ports : (node k : ℕ) (ws : List Wire) → map (λ (e : Edge). e.port) (edges_into p node k ws) ≡ filled_from k ws
  block-ports node k [] = refl
  block-ports node k (w ∷ ws) = by w.feed (block-ports node (suc k) ws)
    where
      by : (f : Feed) → map (λ (e : Edge). e.port) (edges_into p node (suc k) ws) ≡ filled_from (suc k) ws
          → map (λ (e : Edge). e.port) (edge_if node k (label_of p w.ty) (origin_of f) ++ edges_into p node (suc k) ws) ≡ filled_if k f ++ filled_from (suc k) ws
      by (Literal c) r = ap (λ l. k ∷ l) r
      by (Named s) r = ap (λ l. k ∷ l) r
      by Absent r = r
      by (Port up n q) r = ap (λ l. k ∷ l) r

  node-ports : (node : ℕ) (a : Action) (ws : List Wire) → map (λ (e : Edge). e.port) (node_edges p node a ws) ≡ filled a ws
  node-ports node (Row op) ws = block-ports node 1 ws
  node-ports node (Call f) ws = ap (λ l. 1 ∷ l) (block-ports node 2 ws)
  node-ports node (Whole c gs arms given outs) ws = block-ports node 1 ws

  -- ---- a graph of the unit

  module _ (g : Graph) (d : LoweredGraph) (is : IsGraphOf p g d) where
    pub results-ports : ports_into g 0 ≡ filled_from 1 d.results
    results-ports = ap (map (λ (e : Edge). e.port)) (boundary-edges p g d is) ∙ block-ports 0 1 d.results

    pub edge-into-results : (port : ℕ) → edge_into g 0 port ≡ (at_port port d.results >>= made 0 port)
    edge-into-results port = find-filtered 0 port (out-Graph g).edges ∙ (ap (find (to_port port)) (boundary-edges p g d is) ∙ find-ports 0 port d.results)

    pub results-are : AreShown d.results → results g ≡ length d.results
    results-are h = ap greatest (results-ports ∙ shown-ports 1 d.results h) ∙ greatest-first (length d.results)

    module _ (i : ℕ) (n : Node) (v : LoweredNode) (s : IsAtNode p g d is i n v) where
      pub node-filled : ports_into g (suc i) ≡ filled v.action v.ins
      node-filled = ap (map (λ (e : Edge). e.port)) s.edges ∙ node-ports (suc i) v.action v.ins

      pub edge-into-node : (port : ℕ) → edge_into g (suc i) port ≡ made_into (suc i) v.action v.ins port
      edge-into-node port = find-filtered (suc i) port (out-Graph g).edges ∙ (ap (find (to_port port)) s.edges ∙ find-node (suc i) v.action v.ins port)

  -- ---- what ports carry

  module _ (u : Unit1) (sort : Carried → Sort) where
    -- the label of what is carried stands for its sort in the unit
    abbrev pub HasSort : Carried → Type 0
    HasSort c = sort_at u.types (label_of p c) ≡ Some (sort c)

    abbrev pub IsSorted : Feed → Carried → Type 0
    IsSorted Absent c = Unit {0}
    IsSorted f c = HasSort c

    abbrev pub AreSorted : List Wire → Type 0
    AreSorted [] = Unit {0}
    AreSorted (w ∷ ws) = IsSorted w.feed w.ty × AreSorted ws

    abbrev pub IsCalleeSorted : Action → Type 0
    IsCalleeSorted (Call f) = HasSort (Callee f)
    IsCalleeSorted a = Unit {0}

    abbrev pub AreNodesSorted : List LoweredNode → Type 0
    AreNodesSorted [] = Unit {0}
    AreNodesSorted (v ∷ vs) = (IsCalleeSorted v.action × AreSorted v.ins) × AreNodesSorted vs

    abbrev pub IsGraphSorted : LoweredGraph → Type 0
    IsGraphSorted d = AreNodesSorted d.nodes × AreSorted d.results

    pub sorted-node : (vs : List LoweredNode) (i : ℕ) (v : LoweredNode) → AreNodesSorted vs → slice_get vs i ≡ Some v → IsCalleeSorted v.action × AreSorted v.ins
    sorted-node [] i v h e = absurd cc
    sorted-node (x ∷ vs) zero v h e = subst (λ (y : LoweredNode). IsCalleeSorted y.action × AreSorted y.ins) (same e) h.0
      where
        same : Some x ≡ Some v → x ≡ v
        same e = cc
    sorted-node (x ∷ vs) (suc i) v h e = sorted-node vs i v h.1 e

    abbrev sort_on : Edge → Option Sort
    sort_on e = sort_at u.types e.ty

    made-sort : (node port : ℕ) (f : Feed) (c : Carried) → IsSorted f c → (option_map (edge node port (label_of p c)) (origin_of f) >>= sort_on) ≡ sort_if sort f c
    made-sort node port (Literal x) c h = h
    made-sort node port (Named x) c h = h
    made-sort node port Absent c h = refl
    made-sort node port (Port up n q) c h = h

    slice-sort : (node port : ℕ) (ws : List Wire) (j : ℕ) → AreSorted ws → ((slice_get ws j >>= made node port) >>= sort_on) ≡ (slice_get ws j >>= λ w. sort_if sort w.feed w.ty)
    slice-sort node port [] j h = refl
    slice-sort node port (w ∷ ws) zero h = made-sort node port w.feed w.ty h.0
    slice-sort node port (w ∷ ws) (suc j) h = slice-sort node port ws j h.1

    block-sort : (node port : ℕ) (ws : List Wire) → AreSorted ws → ((at_port port ws >>= made node port) >>= sort_on) ≡ sort_in sort ws port
    block-sort node zero ws h = refl
    block-sort node (suc j) ws h = slice-sort node (suc j) ws j h

    node-sort : (node : ℕ) (a : Action) (ws : List Wire) (port : ℕ) → IsCalleeSorted a → AreSorted ws → (made_into node a ws port >>= sort_on) ≡ sort_into sort a ws port
    node-sort node (Row op) ws port c h = block-sort node port ws h
    node-sort node (Whole x gs arms given outs) ws port c h = block-sort node port ws h
    node-sort node (Call f) ws zero c h = refl
    node-sort node (Call f) ws (suc zero) c h = c
    node-sort node (Call f) ws (suc (suc j)) c h = slice-sort node (suc (suc j)) ws j h

    module _ (g : Graph) (d : LoweredGraph) (is : IsGraphOf p g d) (sorts : IsGraphSorted d) where
      pub results-carry : (port : ℕ) → carried u g 0 port ≡ sort_in sort d.results port
      results-carry port = ap (λ o. o >>= sort_on) (edge-into-results g d is port) ∙ block-sort 0 port d.results sorts.1

      pub node-carries : (i : ℕ) (n : Node) (v : LoweredNode) → IsAtNode p g d is i n v → (port : ℕ) → carried u g (suc i) port ≡ sort_into sort v.action v.ins port
      node-carries i n v s port =
          let h = sorted-node d.nodes i v sorts.0 s.lowered in
          ap (λ o. o >>= sort_on) (edge-into-node g d is i n v s port) ∙ node-sort (suc i) v.action v.ins port h.0 h.1

  -- ---- literals

  made-text : (node port : ℕ) (f : Feed) (ty : ℕ) → (option_map (edge node port ty) (origin_of f) >>= λ e. text_of e.from) ≡ text_in f
  made-text node port (Literal x) ty = refl
  made-text node port (Named x) ty = refl
  made-text node port Absent ty = refl
  made-text node port (Port up n q) ty = refl

  slice-text : (node port : ℕ) (ws : List Wire) (j : ℕ) → ((slice_get ws j >>= made node port) >>= λ e. text_of e.from) ≡ (slice_get ws j >>= λ w. text_in w.feed)
  slice-text node port [] j = refl
  slice-text node port (w ∷ ws) zero = made-text node port w.feed (label_of p w.ty)
  slice-text node port (w ∷ ws) (suc j) = slice-text node port ws j

  -- what the text at the first port of a node is
  abbrev pub first_text : Action → List Wire → Option (List ℕ)
  first_text (Call f) ws = Some (called_name p (slice_get p.functions f))
  first_text a ws = slice_get ws 0 >>= λ w. text_in w.feed

  pub node-text : (g : Graph) (d : LoweredGraph) (is : IsGraphOf p g d) (i : ℕ) (n : Node) (v : LoweredNode) → IsAtNode p g d is i n v → literal_at g (suc i) 1 ≡ first_text v.action v.ins
  node-text g d is i n v s = ap (λ o. o >>= λ e. text_of e.from) (edge-into-node g d is i n v s 1) ∙ by v.action
    where
      by : (a : Action) → (made_into (suc i) a v.ins 1 >>= λ e. text_of e.from) ≡ first_text a v.ins
      by (Row op) = slice-text (suc i) 1 v.ins 0
      by (Call f) = refl
      by (Whole c gs arms given outs) = slice-text (suc i) 1 v.ins 0
