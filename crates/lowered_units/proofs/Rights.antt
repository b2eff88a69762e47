-- Each lowered graph: what fills the ports of its nodes, and how many results the graphs inside of a node have.
use Rattle.std.proofs.Common.{◌≡◌, ℕ, zero, suc, ◌+◌, inl, inr, Bool, true, false, List, [], ◌∷◌, ◌++◌, map, length, slice_get, Option, Some, None, refl, sym, ap, subst, ◌∙◌, arith}
use Rattle.std.specs.Prelude.{if◌then◌else◌}
use Rattle.std.proofs.lemmas.List.{length-map}
use Rattle.if1_graph.specs.declared.op.Compound.TheVariants as compound
use Rattle.type_table.specs.declared.form.Form.{Form}
use Rattle.lowering.specs.declared.feed.Feed.{Feed}
use Rattle.lowering.specs.declared.feed.Feed.TheVariants.{Literal, Named, Absent, Port}
use Rattle.lowering.specs.declared.feed.Carried.{Carried}
use Rattle.lowering.specs.declared.feed.Wire.{Wire}
use Rattle.lowering.specs.Feeds.{outside, outsides, has, with_new, distinct}
use Rattle.lowering.specs.declared.graph.Action.{Action}
use Rattle.lowering.specs.declared.graph.Action.TheVariants.{Row, Call, Whole}
use Rattle.lowering.specs.declared.graph.LoweredNode.{LoweredNode}
use Rattle.lowering.specs.declared.graph.LoweredGraph.{LoweredGraph}
use Rattle.lowering.specs.declared.graph.Lowered.{Lowered}
use Rattle.lowering.specs.Graphs.{used_by, used, uses, all_uses, inputs, size, numbers, resolved, closed_wire, closed_wires, closed_nodes, closed_graphs}
use Rattle.lowered_units.proofs.Built.{AreParts, counts, IsGap, IsGoodFeed, IsGood, AreGood, AreFilled, Fills, fills_row, fills_reduction, fills_call, Built, b_only, b_then, b_node, b_whole, b_tag, AllBuilt, no_graph, a_graph}
use Rattle.lowered_units.proofs.Built as built

abbrev pub results_in : Option LoweredGraph → ℕ
results_in None = 0
results_in (Some d) = length d.results

module _ (forms : List Form) (functions : ℕ) where
  -- ---- what is used of the graphs around is good

  abbrev OutsGood : List Wire → Type 0
  OutsGood [] = Unit {0}
  OutsGood (w ∷ ws) = AreGood forms functions (outside w.ty w.feed) × OutsGood ws

  outs-both : (vs ws : List Wire) → OutsGood vs → OutsGood ws → OutsGood (vs ++ ws)
  outs-both [] ws a b = b
  outs-both (v ∷ vs) ws a b = (a.0, outs-both vs ws a.1 b)

  outs-are-good : (ws : List Wire) → OutsGood ws → AreGood forms functions (outsides ws)
  outs-are-good [] h = tt
  outs-are-good (w ∷ ws) h = built.good-both forms functions (outside w.ty w.feed) (outsides ws) h.0 (outs-are-good ws h.1)

  out-feed : (f : Feed) (t : Carried) → IsGoodFeed forms functions f t → AreGood forms functions (outside t f)
  out-feed (Literal c) t h = tt
  out-feed (Named s) t h = tt
  out-feed Absent t h = tt
  out-feed (Port zero n p) t h = tt
  out-feed (Port (suc up) n p) t h = (h, tt)

  out-gap : (f : Feed) (t : Carried) → IsGap f → AreGood forms functions (outside t f)
  out-gap Absent t h = tt
  out-gap (Literal c) t h = absurd h
  out-gap (Named s) t h = absurd h
  out-gap (Port up n p) t h = absurd h

  good-outs : (ws : List Wire) → AreGood forms functions ws → OutsGood ws
  good-outs [] h = tt
  good-outs (w ∷ ws) h = (out-feed w.feed w.ty h.0, good-outs ws h.1)

  filled-outs : (ws : List Wire) → AreFilled forms functions ws → OutsGood ws
  filled-outs [] h = tt
  filled-outs (w ∷ []) h = (out-feed w.feed w.ty h, tt)
  filled-outs (w ∷ v ∷ vs) h = (elim h.0 [ inl g ↦ out-feed w.feed w.ty g | inr g ↦ out-gap w.feed w.ty g ], filled-outs (v ∷ vs) h.1)

  used-outs : (a : Action) (ws : List Wire) → OutsGood ws → OutsGood (used_by a ws)
  used-outs (Row op) ws h = h
  used-outs (Call f) ws h = h
  used-outs (Whole compound.Select gs arms given outs) ws h = h
  used-outs (Whole compound.ForAll gs arms given outs) ws h = h
  used-outs (Whole compound.LoopA gs arms given outs) ws h = h
  used-outs (Whole compound.LoopB gs arms given outs) ws h = h
  used-outs (Whole compound.TagCase gs arms given outs) [] h = h
  used-outs (Whole compound.TagCase gs arms given outs) (u ∷ ks) h = outs-both ks (u ∷ []) h.1 (h.0, tt)

  fills-outs : (a : Action) (ws : List Wire) → Fills forms functions a ws → OutsGood ws
  fills-outs _ _ (fills_row op ws h k) = filled-outs ws k
  fills-outs _ _ (fills_reduction g name ws h k) = (tt, good-outs ws k)
  fills-outs _ _ (fills_call f ws h k) = good-outs ws k

  abbrev NodesOut : List LoweredNode → Type 0
  NodesOut [] = Unit {0}
  NodesOut (v ∷ vs) = OutsGood (used_by v.action v.ins) × NodesOut vs

  nodes-both : (vs ws : List LoweredNode) → NodesOut vs → NodesOut ws → NodesOut (vs ++ ws)
  nodes-both [] ws a b = b
  nodes-both (v ∷ vs) ws a b = (a.0, nodes-both vs ws a.1 b)

  nodes-outs : (vs : List LoweredNode) → NodesOut vs → OutsGood (used vs)
  nodes-outs [] h = tt
  nodes-outs (v ∷ vs) h = outs-both (used_by v.action v.ins) (used vs) h.0 (nodes-outs vs h.1)

  new-good : (ks : List Wire) (w : Wire) → AreGood forms functions ks → IsGood forms functions w → AreGood forms functions (with_new ks w)
  new-good ks w g h = by (has ks w.feed)
    where
      by : (b : Bool) → AreGood forms functions (if b then ks else ks ++ w ∷ [])
      by true = g
      by false = built.good-both forms functions ks (w ∷ []) g (h, tt)

  distinct-good : (ks ws : List Wire) → AreGood forms functions ks → AreGood forms functions ws → AreGood forms functions (distinct ks ws)
  distinct-good ks [] g h = g
  distinct-good ks (w ∷ ws) g h = distinct-good (with_new ks w) ws (new-good ks w g h.0) h.1

  mutual
    node-outs : (n q : ℕ) (m : Lowered) → Built forms functions n q m → NodesOut m.nodes
    node-outs _ _ _ (b_only n q ws h) = tt
    node-outs _ _ _ (b_then n q a b h k) = nodes-both a.nodes b.nodes (node-outs n q a h) (node-outs (n + length a.nodes) (q + length a.graphs) b k)
    node-outs _ _ _ (b_node n q act ins port ts h one k) = (used-outs act ins (fills-outs act ins h), tt)
    node-outs _ _ _ (b_whole n q c ms arms given ts h s l k) = (used-outs (Whole c (numbers q ms) arms given (length ts)) (inputs ms) (good-outs (inputs ms) (distinct-good [] (outsides (all_uses ms)) tt (outs-are-good (all_uses ms) (all-outs q ms h)))), tt)
    node-outs _ _ _ (b_tag n q u ms arms ts g h s l k) = (used-outs (Whole compound.TagCase (numbers q ms) arms 0 (length ts)) (u ∷ inputs ms) (good-outs (u ∷ inputs ms) (g, (distinct-good [] (outsides (all_uses ms)) tt (outs-are-good (all_uses ms) (all-outs q ms h))))), tt)

    all-outs : (q : ℕ) (ms : List Lowered) → AllBuilt forms functions q ms → OutsGood (all_uses ms)
    all-outs _ _ (no_graph q) = tt
    all-outs _ _ (a_graph q m ms h r) =
        outs-both (uses m) (all_uses ms) (outs-both (used m.nodes) m.values (nodes-outs m.nodes (node-outs 0 (suc q) m h)) (good-outs m.values (built.values-good forms functions 0 (suc q) m h))) (all-outs (q + size m) ms r)

  pub inputs-good : (q : ℕ) (ms : List Lowered) → AllBuilt forms functions q ms → AreGood forms functions (inputs ms)
  inputs-good q ms h = distinct-good [] (outsides (all_uses ms)) tt (outs-are-good (all_uses ms) (all-outs q ms h))

  -- ---- graphs that are closed

  closed-feed : (ks : List Wire) (first own : ℕ) (f : Feed) (t : Carried) → IsGoodFeed forms functions f t → IsGoodFeed forms functions (resolved ks first own f) t
  closed-feed ks first own (Literal c) t h = h
  closed-feed ks first own (Named s) t h = h
  closed-feed ks first own Absent t h = h
  closed-feed ks first own (Port zero zero p) t h = (omega (arith, h.0), h.1)
  closed-feed ks first own (Port zero (suc n) p) t h = h
  closed-feed ks first own (Port (suc up) n p) t h = (omega arith, h.1)

  pub closed-gap : (ks : List Wire) (first own : ℕ) (f : Feed) → IsGap f → IsGap (resolved ks first own f)
  closed-gap ks first own Absent h = h
  closed-gap ks first own (Literal c) h = absurd h
  closed-gap ks first own (Named s) h = absurd h
  closed-gap ks first own (Port up n p) h = absurd h

  closed-good : (ks : List Wire) (first own : ℕ) (ws : List Wire) → AreGood forms functions ws → AreGood forms functions (closed_wires ks first own ws)
  closed-good ks first own [] h = tt
  closed-good ks first own (w ∷ ws) h = (closed-feed ks first own w.feed w.ty h.0, closed-good ks first own ws h.1)

  closed-filled : (ks : List Wire) (first own : ℕ) (ws : List Wire) → AreFilled forms functions ws → AreFilled forms functions (closed_wires ks first own ws)
  closed-filled ks first own [] h = tt
  closed-filled ks first own (w ∷ []) h = closed-feed ks first own w.feed w.ty h
  closed-filled ks first own (w ∷ v ∷ vs) h =
      (elim h.0 [ inl g ↦ inl (closed-feed ks first own w.feed w.ty g) | inr g ↦ inr (closed-gap ks first own w.feed g) ], closed-filled ks first own (v ∷ vs) h.1)

  closed-fills : (ks : List Wire) (first own : ℕ) (a : Action) (ws : List Wire) → Fills forms functions a ws → Fills forms functions a (closed_wires ks first own ws)
  closed-fills ks first own _ _ (fills_row op ws h k) = fills_row op (closed_wires ks first own ws) h (closed-filled ks first own ws k)
  closed-fills ks first own _ _ (fills_reduction g name ws h k) = fills_reduction g name (closed_wires ks first own ws) h (closed-good ks first own ws k)
  closed-fills ks first own _ _ (fills_call f ws h k) = fills_call f (closed_wires ks first own ws) h (closed-good ks first own ws k)

  -- ---- graphs by number

  module _ (at : ℕ → Option LoweredGraph) where
    -- graphs stand from a number on
    abbrev pub At : ℕ → List LoweredGraph → Type 0
    At q [] = Unit {0}
    At q (d ∷ ds) = (at q ≡ Some d) × At (suc q) ds

    abbrev pub count : ℕ → ℕ
    count q = results_in (at q)

    abbrev pub IsRightNode : Action → List Wire → Type 0
    IsRightNode (Row op) ws = Fills forms functions (Row op) ws
    IsRightNode (Call f) ws = Fills forms functions (Call f) ws
    IsRightNode (Whole c gs arms given outs) ws = AreGood forms functions ws × AreParts c (map count gs) given outs

    abbrev pub AreRight : List LoweredNode → Type 0
    AreRight [] = Unit {0}
    AreRight (v ∷ vs) = IsRightNode v.action v.ins × AreRight vs

    abbrev pub IsRightGraph : LoweredGraph → Type 0
    IsRightGraph d = AreRight d.nodes × AreGood forms functions d.results

    abbrev pub AreRightGraphs : List LoweredGraph → Type 0
    AreRightGraphs [] = Unit {0}
    AreRightGraphs (d ∷ ds) = IsRightGraph d × AreRightGraphs ds

    right-both : (vs ws : List LoweredNode) → AreRight vs → AreRight ws → AreRight (vs ++ ws)
    right-both [] ws a b = b
    right-both (v ∷ vs) ws a b = (a.0, right-both vs ws a.1 b)

    graphs-both : (vs ws : List LoweredGraph) → AreRightGraphs vs → AreRightGraphs ws → AreRightGraphs (vs ++ ws)
    graphs-both [] ws a b = b
    graphs-both (v ∷ vs) ws a b = (a.0, graphs-both vs ws a.1 b)

    at-left : (q : ℕ) (ds es : List LoweredGraph) → At q (ds ++ es) → At q ds
    at-left q [] es h = tt
    at-left q (d ∷ ds) es h = (h.0, at-left (suc q) ds es h.1)

    at-right : (q : ℕ) (ds es : List LoweredGraph) → At q (ds ++ es) → At (q + length ds) es
    at-right q [] es h = subst (λ i. At i es) (omega arith) h
    at-right q (d ∷ ds) es h = subst (λ i. At i es) (omega arith) (at-right (suc q) ds es h.1)

    closed-right : (ks : List Wire) (first own : ℕ) (vs : List LoweredNode) → AreRight vs → AreRight (closed_nodes ks first own vs)
    closed-right ks first own [] h = tt
    closed-right ks first own (v ∷ vs) h = (one v.action v.ins h.0, closed-right ks first own vs h.1)
      where
        one : (a : Action) (ws : List Wire) → IsRightNode a ws → IsRightNode a (closed_wires ks first own ws)
        one (Row op) ws h = closed-fills ks first own (Row op) ws h
        one (Call f) ws h = closed-fills ks first own (Call f) ws h
        one (Whole c gs arms given outs) ws h = (closed-good ks first own ws h.0, h.1)

    fills-right : (a : Action) (ws : List Wire) → Fills forms functions a ws → IsRightNode a ws
    fills-right _ _ (fills_row op ws h k) = fills_row op ws h k
    fills-right _ _ (fills_reduction g name ws h k) = fills_reduction g name ws h k
    fills-right _ _ (fills_call f ws h k) = fills_call f ws h k

    counted : (ks : List Wire) (first own q : ℕ) (ms : List Lowered) → At q (closed_graphs ks first own ms) → map count (numbers q ms) ≡ counts ms
    counted ks first own q [] h = refl
    counted ks first own q (m ∷ ms) h =
        ap (λ k. k ∷ map count (numbers (q + size m) ms)) (ap results_in h.0 ∙ length-map m.values (closed_wire ks first own))
        ∙ ap (λ l. length m.values ∷ l) (counted ks first own (q + size m) ms (subst (λ i. At i (closed_graphs ks first own ms)) (omega arith) (at-right (suc q) m.graphs (closed_graphs ks first own ms) h.1)))

    mutual
      right : (n q : ℕ) (m : Lowered) → Built forms functions n q m → At q m.graphs → AreRight m.nodes × AreRightGraphs m.graphs
      right _ _ _ (b_only n q ws h) t = (tt, tt)
      right _ _ _ (b_then n q a b h k) t =
          let l = right n q a h (at-left q a.graphs b.graphs t) in
          let r = right (n + length a.nodes) (q + length a.graphs) b k (at-right q a.graphs b.graphs t) in
          (right-both a.nodes b.nodes l.0 r.0, graphs-both a.graphs b.graphs l.1 r.1)
      right _ _ _ (b_node n q act ins port ts h one k) t = ((fills-right act ins h, tt), tt)
      right _ _ _ (b_whole n q c ms arms given ts h s l k) t =
          (((inputs-good q ms h, subst (λ z. AreParts c z given (length ts)) (sym (counted (inputs ms) 0 (length (inputs ms)) q ms t)) s), tt), all-right (inputs ms) 0 (length (inputs ms)) q ms h t)
      right _ _ _ (b_tag n q u ms arms ts g h s l k) t =
          ((((g, inputs-good q ms h), subst (λ z. AreParts compound.TagCase z 0 (length ts)) (sym (counted (inputs ms) 1 0 q ms t)) s), tt), all-right (inputs ms) 1 0 q ms h t)

      pub all-right : (ks : List Wire) (first own q : ℕ) (ms : List Lowered) → AllBuilt forms functions q ms → At q (closed_graphs ks first own ms) → AreRightGraphs (closed_graphs ks first own ms)
      all-right ks first own _ _ (no_graph q) t = tt
      all-right ks first own _ _ (a_graph q m ms h r) t =
          let here = right 0 (suc q) m h (at-left (suc q) m.graphs (closed_graphs ks first own ms) t.1) in
          let rest = subst (λ i. At i (closed_graphs ks first own ms)) (omega arith) (at-right (suc q) m.graphs (closed_graphs ks first own ms) t.1) in
          ((closed-right ks first own m.nodes here.0, closed-good ks first own m.values (built.values-good forms functions 0 (suc q) m h)), graphs-both m.graphs (closed_graphs ks first own ms) here.1 (all-right ks first own (q + size m) ms r rest))

    pub at-from : (k : ℕ) (ds : List LoweredGraph) → ((i : ℕ) (d : LoweredGraph) → slice_get ds i ≡ Some d → at (k + i) ≡ Some d) → At k ds
    at-from k [] h = tt
    at-from k (d ∷ ds) h = (subst (λ i. at i ≡ Some d) (omega arith) (h 0 d refl), at-from (suc k) ds (λ i e s. subst (λ i. at i ≡ Some e) (omega arith) (h (suc i) e s)))

    -- the graph of a number is one of those that are right
    pub right-at : (ds : List LoweredGraph) (i : ℕ) (d : LoweredGraph) → AreRightGraphs ds → slice_get ds i ≡ Some d → IsRightGraph d
    right-at [] i d h e = absurd cc
    right-at (x ∷ ds) zero d h e = subst IsRightGraph (same e) h.0
      where
        same : Some x ≡ Some d → x ≡ d
        same e = cc
    right-at (x ∷ ds) (suc i) d h e = right-at ds i d h.1 e
