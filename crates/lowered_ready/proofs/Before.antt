-- What fills ports comes from nodes that stand before, in the graph or in one around it.
use Rattle.std.proofs.Common.{ℕ, zero, suc, ◌+◌, ◌≤◌, Bool, true, false, List, [], ◌∷◌, ◌++◌, map, length, subst, arith}
use Rattle.std.specs.Prelude.{if◌then◌else◌}
use Rattle.std.proofs.lemmas.List.{length-append}
use Rattle.if1_graph.specs.declared.op.Compound.{Compound}
use Rattle.if1_graph.specs.declared.op.Compound.TheVariants as compound
use Rattle.lowering.specs.declared.feed.Feed.{Feed}
use Rattle.lowering.specs.declared.feed.Feed.TheVariants.{Literal, Named, Absent, Port}
use Rattle.lowering.specs.declared.feed.Carried.{Carried}
use Rattle.lowering.specs.declared.feed.Carried.TheVariants.{One}
use Rattle.lowering.specs.declared.feed.Wire.{Wire}
use Rattle.lowering.specs.Feeds.{inside, into, outside, outsides, has, with_new, distinct}
use Rattle.lowering.specs.declared.graph.Action.{Action}
use Rattle.lowering.specs.declared.graph.Action.TheVariants.{Row, Call, Whole}
use Rattle.lowering.specs.declared.graph.LoweredNode.{LoweredNode}
use Rattle.lowering.specs.declared.graph.LoweredGraph.{LoweredGraph}
use Rattle.lowering.specs.declared.graph.Lowered.{Lowered}
use Rattle.lowering.specs.Graphs.{Lowering, only, joined, andthen, ports, a_node, used_by, used, uses, resolved, closed_wires, closed_nodes, closed_graphs, all_uses, inputs, size, whole, tag_case_on, new_graph, new_graphs}

-- ---- wires, where so many nodes stand in the graph and in those around it

-- a node of the graph so many around stands there
abbrev pub Reached : ℕ → ℕ → List ℕ → Type 0
Reached up m [] = ⊥
Reached zero m (n ∷ ns) = m ≤ n
Reached (suc up) m (n ∷ ns) = Reached up m ns

abbrev pub IsBefore : List ℕ → Feed → Type 0
IsBefore ns (Literal c) = Unit {0}
IsBefore ns (Named s) = Unit {0}
IsBefore ns Absent = Unit {0}
IsBefore ns (Port up m q) = Reached up m ns

abbrev pub AreBefore : List ℕ → List Wire → Type 0
AreBefore ns [] = Unit {0}
AreBefore ns (w ∷ ws) = IsBefore ns w.feed × AreBefore ns ws

reached-later : (ns : List ℕ) (i j up m : ℕ) → i ≤ j → Reached up m (i ∷ ns) → Reached up m (j ∷ ns)
reached-later ns i j zero m l h = omega (arith, l, h)
reached-later ns i j (suc up) m l h = h

feed-later : (ns : List ℕ) (i j : ℕ) → i ≤ j → (f : Feed) → IsBefore (i ∷ ns) f → IsBefore (j ∷ ns) f
feed-later ns i j l (Literal c) h = h
feed-later ns i j l (Named s) h = h
feed-later ns i j l Absent h = h
feed-later ns i j l (Port up m q) h = reached-later ns i j up m l h

-- more nodes may stand in the graph
pub later : (ns : List ℕ) (i j : ℕ) → i ≤ j → (ws : List Wire) → AreBefore (i ∷ ns) ws → AreBefore (j ∷ ns) ws
later ns i j l [] h = tt
later ns i j l (w ∷ ws) h = (feed-later ns i j l w.feed h.0, later ns i j l ws h.1)

pub both : (ns : List ℕ) (vs ws : List Wire) → AreBefore ns vs → AreBefore ns ws → AreBefore ns (vs ++ ws)
both ns [] ws a b = b
both ns (v ∷ vs) ws a b = (a.0, both ns vs ws a.1 b)

feed-into : (ns : List ℕ) (n : ℕ) (f : Feed) → IsBefore ns f → IsBefore (n ∷ ns) (inside f)
feed-into ns n (Literal c) h = h
feed-into ns n (Named s) h = h
feed-into ns n Absent h = h
feed-into ns n (Port up m q) h = h

-- seen from a graph inside
pub all-into : (ns : List ℕ) (n : ℕ) (ws : List Wire) → AreBefore ns ws → AreBefore (n ∷ ns) (map into ws)
all-into ns n [] h = tt
all-into ns n (w ∷ ws) h = (feed-into ns n w.feed h.0, all-into ns n ws h.1)

pub ports-before : (ns : List ℕ) (n m port : ℕ) (ts : List Carried) → m ≤ n → AreBefore (n ∷ ns) (ports m port ts)
ports-before ns n m port [] l = tt
ports-before ns n m port (t ∷ ts) l = (l, ports-before ns n m (suc port) ts l)

-- ---- nodes and graphs

-- behind so many nodes
abbrev pub NodesBefore : List ℕ → ℕ → List LoweredNode → Type 0
NodesBefore ns n [] = Unit {0}
NodesBefore ns n (v ∷ vs) = AreBefore (n ∷ ns) v.ins × NodesBefore ns (suc n) vs

-- a graph that is closed
pub record IsOrdered (d : LoweredGraph) : Type 0 where
  pub nodes : NodesBefore [] 0 d.nodes
  pub results : AreBefore (length d.nodes ∷ []) d.results

abbrev pub AreOrdered : List LoweredGraph → Type 0
AreOrdered [] = Unit {0}
AreOrdered (d ∷ ds) = IsOrdered d × AreOrdered ds

-- what is made behind so many nodes
pub record Ordered (ns : List ℕ) (n : ℕ) (m : Lowered) : Type 0 where
  pub nodes : NodesBefore ns n m.nodes
  pub graphs : AreOrdered m.graphs
  pub values : AreBefore ((n + length m.nodes) ∷ ns) m.values

-- where at least so many nodes stand
abbrev pub Orders : List ℕ → ℕ → Lowering → Type 0
Orders ns k f = (n q : ℕ) → k ≤ n → Ordered ns n (f n q)

nodes-both : (ns : List ℕ) (n : ℕ) (vs ws : List LoweredNode) → NodesBefore ns n vs → NodesBefore ns (n + length vs) ws → NodesBefore ns n (vs ++ ws)
nodes-both ns n [] ws a b = subst (λ i. NodesBefore ns i ws) (omega arith) b
nodes-both ns n (v ∷ vs) ws a b = (a.0, nodes-both ns (suc n) vs ws a.1 (subst (λ i. NodesBefore ns i ws) (omega arith) b))

graphs-both : (ds es : List LoweredGraph) → AreOrdered ds → AreOrdered es → AreOrdered (ds ++ es)
graphs-both [] es a b = b
graphs-both (d ∷ ds) es a b = (a.0, graphs-both ds es a.1 b)

joined-ordered : (ns : List ℕ) (n : ℕ) (a b : Lowered) → Ordered ns n a → Ordered ns (n + length a.nodes) b → Ordered ns n (joined a b)
joined-ordered ns n a b x y = record {
  nodes = nodes-both ns n a.nodes b.nodes x.nodes y.nodes;
  graphs = graphs-both a.graphs b.graphs x.graphs y.graphs;
  values = let l = length-append a.nodes b.nodes in later ns ((n + length a.nodes) + length b.nodes) (n + length (a.nodes ++ b.nodes)) (omega (arith, l)) b.values y.values;
}

pub only-orders : (ns : List ℕ) (k : ℕ) (ws : List Wire) → AreBefore (k ∷ ns) ws → Orders ns k (only ws)
only-orders ns k ws h n q l = record { nodes = tt; graphs = tt; values = later ns k (n + 0) (omega (arith, l)) ws h }

pub then-orders : (ns : List ℕ) (k : ℕ) (f : Lowering) (h : List Wire → Lowering) → Orders ns k f → ((j : ℕ) → k ≤ j → (ws : List Wire) → AreBefore (j ∷ ns) ws → Orders ns j (h ws)) → Orders ns k (andthen f h)
then-orders ns k f h a b n q l =
    let m = f n q in
    let x = a n q l in
    let j = n + length m.nodes in
    joined-ordered ns n m (h m.values j (q + length m.graphs)) x (b j (omega (arith, l)) m.values x.values j (q + length m.graphs) (omega arith))

pub node-orders : (ns : List ℕ) (k : ℕ) (act : Action) (ins : List Wire) (port : ℕ) (ts : List Carried) → AreBefore (k ∷ ns) ins → Orders ns k (a_node act ins port ts)
node-orders ns k act ins port ts h n q l = record { nodes = (later ns k n l ins h, tt); graphs = tt; values = ports-before ns (n + 1) (suc n) port ts (omega arith) }

-- ---- graphs are closed

outside-before : (ns : List ℕ) (n : ℕ) (t : Carried) (f : Feed) → IsBefore (n ∷ ns) f → AreBefore ns (outside t f)
outside-before ns n t (Literal c) h = tt
outside-before ns n t (Named s) h = tt
outside-before ns n t Absent h = tt
outside-before ns n t (Port zero m q) h = tt
outside-before ns n t (Port (suc up) m q) h = (h, tt)

outsides-before : (ns : List ℕ) (n : ℕ) (ws : List Wire) → AreBefore (n ∷ ns) ws → AreBefore ns (outsides ws)
outsides-before ns n [] h = tt
outsides-before ns n (w ∷ ws) h = both ns (outside w.ty w.feed) (outsides ws) (outside-before ns n w.ty w.feed h.0) (outsides-before ns n ws h.1)

outsides-both : (ns : List ℕ) (vs ws : List Wire) → AreBefore ns (outsides vs) → AreBefore ns (outsides ws) → AreBefore ns (outsides (vs ++ ws))
outsides-both ns [] ws a b = b
outsides-both ns (v ∷ vs) ws a b = by (outside v.ty v.feed) a (λ k. outsides-both ns vs ws k b)
  where
    by : (os : List Wire) → AreBefore ns (os ++ outsides vs) → (AreBefore ns (outsides vs) → AreBefore ns (outsides (vs ++ ws))) → AreBefore ns (os ++ outsides (vs ++ ws))
    by [] h f = f h
    by (o ∷ os) h f = (h.0, by os h.1 f)

used-before : (ns : List ℕ) (a : Action) (ws : List Wire) → AreBefore ns ws → AreBefore ns (used_by a ws)
used-before ns (Row op) ws h = h
used-before ns (Call f) ws h = h
used-before ns (Whole compound.Select gs arms given outs) ws h = h
used-before ns (Whole compound.ForAll gs arms given outs) ws h = h
used-before ns (Whole compound.LoopA gs arms given outs) ws h = h
used-before ns (Whole compound.LoopB gs arms given outs) ws h = h
used-before ns (Whole compound.TagCase gs arms given outs) [] h = h
used-before ns (Whole compound.TagCase gs arms given outs) (u ∷ ks) h = both ns ks (u ∷ []) h.1 (h.0, tt)

nodes-outsides : (ns : List ℕ) (n : ℕ) (vs : List LoweredNode) → NodesBefore ns n vs → AreBefore ns (outsides (used vs))
nodes-outsides ns n [] h = tt
nodes-outsides ns n (v ∷ vs) h =
    outsides-both ns (used_by v.action v.ins) (used vs) (outsides-before ns n (used_by v.action v.ins) (used-before (n ∷ ns) v.action v.ins h.0)) (nodes-outsides ns (suc n) vs h.1)

-- graphs of a compound node
abbrev pub AllOrdered : List ℕ → List Lowered → Type 0
AllOrdered ns [] = Unit {0}
AllOrdered ns (m ∷ ms) = Ordered ns 0 m × AllOrdered ns ms

uses-before : (ns : List ℕ) (ms : List Lowered) → AllOrdered ns ms → AreBefore ns (outsides (all_uses ms))
uses-before ns [] h = tt
uses-before ns (m ∷ ms) h =
    outsides-both ns (uses m) (all_uses ms)
    (outsides-both ns (used m.nodes) m.values (nodes-outsides ns 0 m.nodes h.0.nodes) (outsides-before ns (0 + length m.nodes) m.values h.0.values))
    (uses-before ns ms h.1)

distinct-before : (ns : List ℕ) (ks ws : List Wire) → AreBefore ns ks → AreBefore ns ws → AreBefore ns (distinct ks ws)
distinct-before ns ks [] g h = g
distinct-before ns ks (w ∷ ws) g h = distinct-before ns (with_new ks w) ws (by (has ks w.feed)) h.1
  where
    by : (b : Bool) → AreBefore ns (if b then ks else ks ++ w ∷ [])
    by true = g
    by false = both ns ks (w ∷ []) g (h.0, tt)

inputs-before : (ns : List ℕ) (ms : List Lowered) → AllOrdered ns ms → AreBefore ns (inputs ms)
inputs-before ns ms h = distinct-before ns [] (outsides (all_uses ms)) tt (uses-before ns ms h)

closed-feed : (ns : List ℕ) (ks : List Wire) (first own n : ℕ) (f : Feed) → IsBefore (n ∷ ns) f → IsBefore (n ∷ []) (resolved ks first own f)
closed-feed ns ks first own n (Literal c) h = tt
closed-feed ns ks first own n (Named s) h = tt
closed-feed ns ks first own n Absent h = tt
closed-feed ns ks first own n (Port zero zero q) h = omega arith
closed-feed ns ks first own n (Port zero (suc m) q) h = h
closed-feed ns ks first own n (Port (suc up) m q) h = omega arith

closed-before : (ns : List ℕ) (ks : List Wire) (first own n : ℕ) (ws : List Wire) → AreBefore (n ∷ ns) ws → AreBefore (n ∷ []) (closed_wires ks first own ws)
closed-before ns ks first own n [] h = tt
closed-before ns ks first own n (w ∷ ws) h = (closed-feed ns ks first own n w.feed h.0, closed-before ns ks first own n ws h.1)

closed-nodes : (ns : List ℕ) (ks : List Wire) (first own n : ℕ) (vs : List LoweredNode) → NodesBefore ns n vs → NodesBefore [] n (closed_nodes ks first own vs)
closed-nodes ns ks first own n [] h = tt
closed-nodes ns ks first own n (v ∷ vs) h = (closed-before ns ks first own n v.ins h.0, closed-nodes ns ks first own (suc n) vs h.1)

closed-size : (ks : List Wire) (first own : ℕ) (vs : List LoweredNode) → length vs ≤ length (closed_nodes ks first own vs)
closed-size ks first own [] = omega arith
closed-size ks first own (v ∷ vs) = let rest = closed-size ks first own vs in omega (arith, rest)

pub graphs-ordered : (ns : List ℕ) (ks : List Wire) (first own : ℕ) (ms : List Lowered) → AllOrdered ns ms → AreOrdered (closed_graphs ks first own ms)
graphs-ordered ns ks first own [] h = tt
graphs-ordered ns ks first own (m ∷ ms) h = (
  record {
    nodes = closed-nodes ns ks first own 0 m.nodes h.0.nodes;
    results = let l = closed-size ks first own m.nodes in
        later [] (0 + length m.nodes) (length (closed_nodes ks first own m.nodes)) (omega (arith, l)) (closed_wires ks first own m.values) (closed-before ns ks first own (0 + length m.nodes) m.values h.0.values);
  },
  graphs-both m.graphs (closed_graphs ks first own ms) h.0.graphs (graphs-ordered ns ks first own ms h.1),
)

-- ---- nodes with graphs inside

pub whole-ordered : (ns : List ℕ) (n q : ℕ) (c : Compound) (ms : List Lowered) (arms : List ℕ) (given : ℕ) (ts : List ℕ) → AllOrdered (n ∷ ns) ms → Ordered ns n (whole c ms arms given ts n q)
whole-ordered ns n q c ms arms given ts h = record {
  nodes = (inputs-before (n ∷ ns) ms h, tt);
  graphs = graphs-ordered (n ∷ ns) (inputs ms) 0 (length (inputs ms)) ms h;
  values = ports-before ns (n + 1) (suc n) 1 (map One ts) (omega arith);
}

pub tag-ordered : (ns : List ℕ) (n q : ℕ) (u : Wire) (ms : List Lowered) (arms ts : List ℕ) → IsBefore (n ∷ ns) u.feed → AllOrdered (n ∷ ns) ms → Ordered ns n (tag_case_on u ms arms ts n q)
tag-ordered ns n q u ms arms ts b h = record {
  nodes = ((b, inputs-before (n ∷ ns) ms h), tt);
  graphs = graphs-ordered (n ∷ ns) (inputs ms) 1 0 ms h;
  values = ports-before ns (n + 1) (suc n) 1 (map One ts) (omega arith);
}

abbrev pub AllOrder : List ℕ → List Lowering → Type 0
AllOrder ns [] = Unit {0}
AllOrder ns (f ∷ fs) = Orders ns 0 f × AllOrder ns fs

pub new-ordered : (ns : List ℕ) (q : ℕ) (fs : List Lowering) → AllOrder ns fs → AllOrdered ns (new_graphs q fs)
new-ordered ns q [] h = tt
new-ordered ns q (f ∷ fs) h = (h.0 0 (suc q) (omega arith), new-ordered ns (q + size (new_graph f q)) fs h.1)
