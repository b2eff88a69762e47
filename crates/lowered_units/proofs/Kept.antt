-- What a lowering has no more of than ports, and that ports and the labels of nodes are then no more than these.
use Rattle.std.proofs.Common.{◌≡◌, ℕ, zero, suc, ◌+◌, ◌≤◌, Bool, true, false, List, [], ◌∷◌, ◌++◌, map, length, refl, ap, ◌∙◌, arith}
use Rattle.std.specs.Prelude.{All, ◌^◌, if◌then◌else◌}
use Rattle.std.proofs.lemmas.List.{length-append, length-map}
use Rattle.std.proofs.lemmas.List.Elements.{All-nil, All-cons}
use Rattle.if1_graph.specs.declared.op.Compound.{Compound}
use Rattle.if1_graph.specs.declared.op.Compound.TheVariants as compound
use Rattle.lowering.specs.declared.feed.Feed.{Feed}
use Rattle.lowering.specs.declared.feed.Feed.TheVariants.{Literal, Named, Absent, Port}
use Rattle.lowering.specs.declared.feed.Carried.{Carried}
use Rattle.lowering.specs.declared.feed.Carried.TheVariants.{One}
use Rattle.lowering.specs.declared.feed.Wire.{Wire}
use Rattle.lowering.specs.Feeds.{carried, is_port, outside, outsides, has, with_new, distinct, place}
use Rattle.lowering.specs.declared.graph.Action.{Action}
use Rattle.lowering.specs.declared.graph.Action.TheVariants.{Row, Call, Whole}
use Rattle.lowering.specs.declared.graph.LoweredNode.{LoweredNode}
use Rattle.lowering.specs.declared.graph.LoweredGraph.{LoweredGraph}
use Rattle.lowering.specs.declared.graph.Lowered.{Lowered}
use Rattle.lowering.specs.Graphs.{Lowering, only, joined, andthen, ports, a_node, used_by, used, uses, resolved, closed_wire, closed_wires, closed_nodes, closed_graphs, all_uses, inputs, numbers, size, whole, tag_case_on, new_graph, new_graphs, graph_lines}
use Rattle.lowering.specs.TooMany.{node_ports, all_node_ports, graph_ports}
use Rattle.lowered_units.specs.Small.{IsSmallFeed, AreSmall, IsSmallGraph}
use Rattle.lowered_units.proofs.Members.{EachLine, left-lines, right-lines}

-- ---- counts

-- the ports of nodes and of the graphs inside of them
abbrev pub weight : Lowered → ℕ
weight m = all_node_ports m.nodes + graph_ports m.graphs

-- those of graphs, with their results
abbrev pub inner : List Lowered → ℕ
inner [] = 0
inner (m ∷ ms) = weight m + length m.values + inner ms

node-counts : (a : Action) (ins : List Wire) → 1 ≤ node_ports a ins
node-counts (Row op) ins = omega arith
node-counts (Call f) ins = omega arith
node-counts (Whole c gs arms given outs) ins = omega arith

nodes-count : (vs : List LoweredNode) → length vs ≤ all_node_ports vs
nodes-count [] = omega arith
nodes-count (v ∷ vs) =
    let here = node-counts v.action v.ins in
    let rest = nodes-count vs in
    omega (arith, here, rest)

pub nodes-both : (vs ws : List LoweredNode) → all_node_ports (vs ++ ws) ≡ all_node_ports vs + all_node_ports ws
nodes-both [] ws = omega arith
nodes-both (v ∷ vs) ws = let rest = nodes-both vs ws in omega (arith, rest)

pub graphs-both : (ds es : List LoweredGraph) → graph_ports (ds ++ es) ≡ graph_ports ds + graph_ports es
graphs-both [] es = omega arith
graphs-both (d ∷ ds) es = let rest = graphs-both ds es in omega (arith, rest)

pub weight-joined : (a b : Lowered) → weight (joined a b) ≡ weight a + weight b
weight-joined a b =
    let x = nodes-both a.nodes b.nodes in
    let y = graphs-both a.graphs b.graphs in
    omega (arith, x, y)

closed-ports : (ks : List Wire) (first own : ℕ) (vs : List LoweredNode) → all_node_ports (closed_nodes ks first own vs) ≡ all_node_ports vs
closed-ports ks first own [] = refl
closed-ports ks first own (v ∷ vs) =
    let here = one v.action v.ins in
    let rest = closed-ports ks first own vs in
    omega (arith, here, rest)
  where
    one : (a : Action) (ins : List Wire) → node_ports a (closed_wires ks first own ins) ≡ node_ports a ins
    one (Row op) ins = ap suc (length-map ins (closed_wire ks first own))
    one (Call f) ins = ap suc (length-map ins (closed_wire ks first own))
    one (Whole c gs arms given outs) ins = refl

pub inner-is : (ks : List Wire) (first own : ℕ) (ms : List Lowered) → graph_ports (closed_graphs ks first own ms) ≡ inner ms
inner-is ks first own [] = refl
inner-is ks first own (m ∷ ms) =
    let nodes = closed-ports ks first own m.nodes in
    let results = length-map m.values (closed_wire ks first own) in
    let both = graphs-both m.graphs (closed_graphs ks first own ms) in
    let rest = inner-is ks first own ms in
    omega (arith, nodes, results, both, rest)

used-one : (a : Action) (ws : List Wire) → length (used_by a ws) ≡ length ws
used-one (Row op) ws = refl
used-one (Call f) ws = refl
used-one (Whole compound.Select gs arms given outs) ws = refl
used-one (Whole compound.ForAll gs arms given outs) ws = refl
used-one (Whole compound.LoopA gs arms given outs) ws = refl
used-one (Whole compound.LoopB gs arms given outs) ws = refl
used-one (Whole compound.TagCase gs arms given outs) [] = refl
used-one (Whole compound.TagCase gs arms given outs) (u ∷ ks) = length-append ks (u ∷ []) ∙ omega arith

used-both : (vs ws : List LoweredNode) → length (used (vs ++ ws)) ≡ length (used vs) + length (used ws)
used-both [] ws = omega arith
used-both (v ∷ vs) ws =
    let all = length-append (used_by v.action v.ins) (used (vs ++ ws)) in
    let here = length-append (used_by v.action v.ins) (used vs) in
    let rest = used-both vs ws in
    omega (arith, all, here, rest)

outside-few : (t : Carried) (f : Feed) → length (outside t f) ≤ 1
outside-few t (Literal c) = omega arith
outside-few t (Named s) = omega arith
outside-few t Absent = omega arith
outside-few t (Port zero n p) = omega arith
outside-few t (Port (suc up) n p) = omega arith

outsides-few : (ws : List Wire) → length (outsides ws) ≤ length ws
outsides-few [] = omega arith
outsides-few (w ∷ ws) =
    let both = length-append (outside w.ty w.feed) (outsides ws) in
    let here = outside-few w.ty w.feed in
    let rest = outsides-few ws in
    omega (arith, both, here, rest)

new-few : (ks : List Wire) (w : Wire) → length (with_new ks w) ≤ suc (length ks)
new-few ks w = by (has ks w.feed)
  where
    by : (b : Bool) → length (if b then ks else ks ++ w ∷ []) ≤ suc (length ks)
    by true = omega arith
    by false = let both = length-append ks (w ∷ []) in omega (arith, both)

distinct-few : (ks ws : List Wire) → length (distinct ks ws) ≤ length ks + length ws
distinct-few ks [] = omega arith
distinct-few ks (w ∷ ws) =
    let here = new-few ks w in
    let rest = distinct-few (with_new ks w) ws in
    omega (arith, here, rest)

place-within : (ks : List Wire) (f : Feed) → place ks f ≤ length ks
place-within [] f = omega arith
place-within (k ∷ ks) f = by (is_port k.feed f) (place-within ks f)
  where
    by : (b : Bool) → place ks f ≤ length ks → (if b then 0 else suc (place ks f)) ≤ suc (length ks)
    by true h = omega arith
    by false h = omega (arith, h)

module _ (most : ℕ) (Few : Carried → Type 0) where
  -- ---- ports and labels that are no more

  abbrev pub IsBelow : Feed → Type 0
  IsBelow (Port up n q) = (n ≤ most) × (q ≤ most)
  IsBelow f = Unit {0}

  abbrev pub AreBelow : List Wire → Type 0
  AreBelow [] = Unit {0}
  AreBelow (w ∷ ws) = IsBelow w.feed × AreBelow ws

  abbrev AreNodesBelow : List LoweredNode → Type 0
  AreNodesBelow [] = Unit {0}
  AreNodesBelow (v ∷ vs) = ((length v.ins ≤ suc most) × AreBelow v.ins) × AreNodesBelow vs

  abbrev pub AreSmallGraphs : List LoweredGraph → Type 0
  AreSmallGraphs [] = Unit {0}
  AreSmallGraphs (d ∷ ds) = IsSmallGraph d × AreSmallGraphs ds

  pub record Kept (m : Lowered) : Type 0 where
    pub used_few : length (used m.nodes) ≤ weight m
    pub nodes_below : AreNodesBelow m.nodes
    pub graphs_small : AreSmallGraphs m.graphs
    pub values_below : AreBelow m.values

  -- what lines carry is of types of few members
  abbrev pub AreFew : List Carried → Type 0
  AreFew cs = EachLine Few cs

  -- where there are so few ports, and lines carry such types
  abbrev pub Keeps : Lowering → Type 0
  Keeps f = (n q : ℕ) → n + weight (f n q) ≤ most → AreFew (f n q).lines → Kept (f n q)

  abbrev pub AllKept : List Lowered → Type 0
  AllKept [] = Unit {0}
  AllKept (m ∷ ms) = Kept m × AllKept ms

  abbrev pub AllKeep : List Lowering → Type 0
  AllKeep [] = Unit {0}
  AllKeep (f ∷ fs) = Keeps f × AllKeep fs

  module _ (one : 1 ≤ most) (fits : most + most + 2 ≤ 2 ^ 32) where
    pub below-both : (vs ws : List Wire) → AreBelow vs → AreBelow ws → AreBelow (vs ++ ws)
    below-both [] ws a b = b
    below-both (v ∷ vs) ws a b = (a.0, below-both vs ws a.1 b)

    all-nodes-below : (vs ws : List LoweredNode) → AreNodesBelow vs → AreNodesBelow ws → AreNodesBelow (vs ++ ws)
    all-nodes-below [] ws a b = b
    all-nodes-below (v ∷ vs) ws a b = (a.0, all-nodes-below vs ws a.1 b)

    small-both : (ds es : List LoweredGraph) → AreSmallGraphs ds → AreSmallGraphs es → AreSmallGraphs (ds ++ es)
    small-both [] es a b = b
    small-both (d ∷ ds) es a b = (a.0, small-both ds es a.1 b)

    pub ports-below : (n port : ℕ) (ts : List Carried) → n ≤ most → port + length ts ≤ suc most → AreBelow (ports n port ts)
    ports-below n port [] h k = tt
    ports-below n port (t ∷ ts) h k = ((h, omega (arith, k)), ports-below n (suc port) ts h (omega (arith, k)))

    pub only-keeps : (ws : List Wire) → AreBelow ws → Keeps (only ws)
    only-keeps ws h n q e l = record { used_few = omega arith; nodes_below = tt; graphs_small = tt; values_below = h }

    joined-kept : (a b : Lowered) → Kept a → Kept b → Kept (joined a b)
    joined-kept a b x y = record {
      used_few =
          let w = weight-joined a b in
          let u = used-both a.nodes b.nodes in
          omega (arith, w, u, x.used_few, y.used_few);
      nodes_below = all-nodes-below a.nodes b.nodes x.nodes_below y.nodes_below;
      graphs_small = small-both a.graphs b.graphs x.graphs_small y.graphs_small;
      values_below = y.values_below;
    }

    -- and what is known of the first one's values
    pub then-knows : (P : List Wire → Type 0) (f : Lowering) (h : List Wire → Lowering) → Keeps f → ((n q : ℕ) → P (f n q).values) → ((ws : List Wire) → P ws → AreBelow ws → Keeps (h ws)) → Keeps (andthen f h)
    then-knows P f h a k b n q e l =
        let m = f n q in
        let r = h m.values (n + length m.nodes) (q + length m.graphs) in
        let both = weight-joined m r in
        let few = nodes-count m.nodes in
        let x = a n q (omega (arith, e, both)) (left-lines Few m.lines r.lines l) in
        joined-kept m r x (b m.values (k n q) x.values_below (n + length m.nodes) (q + length m.graphs) (omega (arith, e, both, few)) (right-lines Few m.lines r.lines l))

    pub then-keeps : (f : Lowering) (h : List Wire → Lowering) → Keeps f → ((ws : List Wire) → AreBelow ws → Keeps (h ws)) → Keeps (andthen f h)
    then-keeps f h a b = then-knows (λ ws. Unit {0}) f h a (λ n q. tt) (λ ws t. b ws)

    -- ---- nodes without graphs inside

    abbrev pub IsPlain : Action → Type 0
    IsPlain (Row op) = Unit {0}
    IsPlain (Call f) = Unit {0}
    IsPlain (Whole c gs arms given outs) = ⊥

    plain-ports : (a : Action) (ins : List Wire) → IsPlain a → node_ports a ins ≡ suc (length ins)
    plain-ports (Row op) ins h = refl
    plain-ports (Call f) ins h = refl
    plain-ports (Whole c gs arms given outs) ins h = absurd h

    nil-right : (xs : List Wire) → length (xs ++ []) ≡ length xs
    nil-right xs = length-append xs [] ∙ omega arith

    pub node-keeps : (act : Action) (ins : List Wire) (port : ℕ) (ts : List Carried) → IsPlain act → AreBelow ins → port + length ts ≤ suc most → Keeps (a_node act ins port ts)
    node-keeps act ins port ts h b k n q e l =
        let w = plain-ports act ins h in
        record {
          used_few =
              let u = nil-right (used_by act ins) in
              let one = used-one act ins in
              omega (arith, w, u, one);
          nodes_below = ((omega (arith, e, w), b), tt);
          graphs_small = tt;
          values_below = ports-below (suc n) port ts (omega (arith, e, w)) k;
        }

    -- ---- graphs are closed

    uses-few : (ms : List Lowered) → AllKept ms → length (all_uses ms) ≤ inner ms
    uses-few [] h = omega arith
    uses-few (m ∷ ms) h =
        let all = length-append (uses m) (all_uses ms) in
        let here = length-append (used m.nodes) m.values in
        let rest = uses-few ms h.1 in
        omega (arith, all, here, rest, h.0.used_few)

    pub inputs-few : (ms : List Lowered) → AllKept ms → length (inputs ms) ≤ inner ms
    inputs-few ms h =
        let d = distinct-few [] (outsides (all_uses ms)) in
        let o = outsides-few (all_uses ms) in
        let u = uses-few ms h in
        omega (arith, d, o, u)

    used-below : (a : Action) (ws : List Wire) → AreBelow ws → AreBelow (used_by a ws)
    used-below (Row op) ws h = h
    used-below (Call f) ws h = h
    used-below (Whole compound.Select gs arms given outs) ws h = h
    used-below (Whole compound.ForAll gs arms given outs) ws h = h
    used-below (Whole compound.LoopA gs arms given outs) ws h = h
    used-below (Whole compound.LoopB gs arms given outs) ws h = h
    used-below (Whole compound.TagCase gs arms given outs) [] h = h
    used-below (Whole compound.TagCase gs arms given outs) (u ∷ ks) h = below-both ks (u ∷ []) h.1 (h.0, tt)

    all-used-below : (vs : List LoweredNode) → AreNodesBelow vs → AreBelow (used vs)
    all-used-below [] h = tt
    all-used-below (v ∷ vs) h = below-both (used_by v.action v.ins) (used vs) (used-below v.action v.ins h.0.1) (all-used-below vs h.1)

    uses-below : (ms : List Lowered) → AllKept ms → AreBelow (all_uses ms)
    uses-below [] h = tt
    uses-below (m ∷ ms) h = below-both (uses m) (all_uses ms) (below-both (used m.nodes) m.values (all-used-below m.nodes h.0.nodes_below) h.0.values_below) (uses-below ms h.1)

    outside-below : (t : Carried) (f : Feed) → IsBelow f → AreBelow (outside t f)
    outside-below t (Literal c) h = tt
    outside-below t (Named s) h = tt
    outside-below t Absent h = tt
    outside-below t (Port zero n p) h = tt
    outside-below t (Port (suc up) n p) h = (h, tt)

    outsides-below : (ws : List Wire) → AreBelow ws → AreBelow (outsides ws)
    outsides-below [] h = tt
    outsides-below (w ∷ ws) h = below-both (outside w.ty w.feed) (outsides ws) (outside-below w.ty w.feed h.0) (outsides-below ws h.1)

    distinct-below : (ks ws : List Wire) → AreBelow ks → AreBelow ws → AreBelow (distinct ks ws)
    distinct-below ks [] g h = g
    distinct-below ks (w ∷ ws) g h = distinct-below (with_new ks w) ws (by (has ks w.feed)) h.1
      where
        by : (b : Bool) → AreBelow (if b then ks else ks ++ w ∷ [])
        by true = g
        by false = below-both ks (w ∷ []) g (h.0, tt)

    inputs-below : (ms : List Lowered) → AllKept ms → AreBelow (inputs ms)
    inputs-below ms h = distinct-below [] (outsides (all_uses ms)) tt (outsides-below (all_uses ms) (uses-below ms h))

    closed-small : (ks : List Wire) (first own : ℕ) → first ≤ 1 → own ≤ most → length ks ≤ most → (f : Feed) → IsBelow f → IsSmallFeed (resolved ks first own f)
    closed-small ks first own a b l (Literal c) h = tt
    closed-small ks first own a b l (Named s) h = tt
    closed-small ks first own a b l Absent h = tt
    closed-small ks first own a b l (Port zero zero p) h = (omega arith, omega (arith, fits, b, h.1))
    closed-small ks first own a b l (Port zero (suc n) p) h = (omega (arith, fits, one, h.0), omega (arith, fits, one, h.1))
    closed-small ks first own a b l (Port (suc up) n p) h =
        let k = place-within ks (Port up n p) in
        (omega arith, omega (arith, fits, one, a, l, k))

    wires-small : (ks : List Wire) (first own : ℕ) → first ≤ 1 → own ≤ most → length ks ≤ most → (ws : List Wire) → AreBelow ws → All (λ w. IsSmallFeed w.feed) (closed_wires ks first own ws)
    wires-small ks first own a b l [] h = All-nil (λ w. IsSmallFeed w.feed)
    wires-small ks first own a b l (w ∷ ws) h =
        All-cons (λ w. IsSmallFeed w.feed) (closed_wire ks first own w) (closed_wires ks first own ws) (closed-small ks first own a b l w.feed h.0) (wires-small ks first own a b l ws h.1)

    all-small : (ks : List Wire) (first own : ℕ) → first ≤ 1 → own ≤ most → length ks ≤ most → (ws : List Wire) → length ws ≤ suc most → AreBelow ws → AreSmall (closed_wires ks first own ws)
    all-small ks first own a b l ws few h = record {
      few = let same = length-map ws (closed_wire ks first own) in omega (arith, fits, one, few, same);
      feeds = wires-small ks first own a b l ws h;
    }

    nodes-small : (ks : List Wire) (first own : ℕ) → first ≤ 1 → own ≤ most → length ks ≤ most → (vs : List LoweredNode) → AreNodesBelow vs → All (λ v. AreSmall v.ins) (closed_nodes ks first own vs)
    nodes-small ks first own a b l [] h = All-nil (λ (v : LoweredNode). AreSmall v.ins)
    nodes-small ks first own a b l (v ∷ vs) h =
        All-cons (λ (v : LoweredNode). AreSmall v.ins) _ (closed_nodes ks first own vs) (all-small ks first own a b l v.ins h.0.0 h.0.1) (nodes-small ks first own a b l vs h.1)

    pub graphs-small : (ks : List Wire) (first own : ℕ) → first ≤ 1 → own ≤ most → length ks ≤ most → (ms : List Lowered) → inner ms ≤ most → AllKept ms → AreSmallGraphs (closed_graphs ks first own ms)
    graphs-small ks first own a b l [] few h = tt
    graphs-small ks first own a b l (m ∷ ms) few h = (
      record { nodes = nodes-small ks first own a b l m.nodes h.0.nodes_below; results = all-small ks first own a b l m.values (omega (arith, few)) h.0.values_below },
      small-both m.graphs (closed_graphs ks first own ms) h.0.graphs_small (graphs-small ks first own a b l ms (omega (arith, few)) h.1),
    )

    -- ---- nodes with graphs inside

    -- such a node has few ports if its graphs have
    pub whole-few : (n q : ℕ) (c : Compound) (ms : List Lowered) (arms : List ℕ) (given : ℕ) (ts : List ℕ) → n + weight (whole c ms arms given ts n q) ≤ most → (n + suc (length ts)) + inner ms ≤ most
    whole-few n q c ms arms given ts e = let i = inner-is (inputs ms) 0 (length (inputs ms)) ms in omega (arith, e, i)

    pub tag-few : (n q : ℕ) (u : Wire) (ms : List Lowered) (arms ts : List ℕ) → n + weight (tag_case_on u ms arms ts n q) ≤ most → (n + suc (length ts)) + inner ms ≤ most
    tag-few n q u ms arms ts e = let i = inner-is (inputs ms) 1 0 ms in omega (arith, e, i)

    outputs-below : (n : ℕ) (ts : List ℕ) → n + suc (length ts) ≤ most → AreBelow (ports (suc n) 1 (map One ts))
    outputs-below n ts h = let same = length-map ts One in ports-below (suc n) 1 (map One ts) (omega (arith, h)) (omega (arith, h, same))

    pub whole-kept : (n q : ℕ) (c : Compound) (ms : List Lowered) (arms : List ℕ) (given : ℕ) (ts : List ℕ) → (n + suc (length ts)) + inner ms ≤ most → AllKept ms → Kept (whole c ms arms given ts n q)
    whole-kept n q c ms arms given ts few h =
        let ks = inputs ms in
        let k = inputs-few ms h in
        let i = inner-is ks 0 (length ks) ms in
        record {
          used_few =
              let u = nil-right (used_by (Whole c (numbers q ms) arms given (length ts)) ks) in
              let l = used-one (Whole c (numbers q ms) arms given (length ts)) ks in
              omega (arith, k, i, u, l);
          nodes_below = ((omega (arith, few, k), inputs-below ms h), tt);
          graphs_small = graphs-small ks 0 (length ks) (omega arith) (omega (arith, few, k)) (omega (arith, few, k)) ms (omega (arith, few)) h;
          values_below = outputs-below n ts (omega (arith, few));
        }

    pub tag-kept : (n q : ℕ) (u : Wire) (ms : List Lowered) (arms ts : List ℕ) → (n + suc (length ts)) + inner ms ≤ most → IsBelow u.feed → AllKept ms → Kept (tag_case_on u ms arms ts n q)
    tag-kept n q u ms arms ts few b h =
        let ks = inputs ms in
        let k = inputs-few ms h in
        let i = inner-is ks 1 0 ms in
        record {
          used_few =
              let l = length-append ks (u ∷ []) in
              let r = nil-right (ks ++ u ∷ []) in
              omega (arith, k, i, l, r);
          nodes_below = ((omega (arith, few, k), (b, inputs-below ms h)), tt);
          graphs_small = graphs-small ks 1 0 (omega arith) (omega arith) (omega (arith, few, k)) ms (omega (arith, few)) h;
          values_below = outputs-below n ts (omega (arith, few));
        }

    pub graph-few : (m : Lowered) (ms : List Lowered) → AreFew (graph_lines (m ∷ ms)) → AreFew m.lines × AreFew (graph_lines ms)
    graph-few m ms l = (
      left-lines Few m.lines (carried m.values) (left-lines Few (m.lines ++ carried m.values) (graph_lines ms) l),
      right-lines Few (m.lines ++ carried m.values) (graph_lines ms) l,
    )

    pub new-kept : (q : ℕ) (fs : List Lowering) → AllKeep fs → inner (new_graphs q fs) ≤ most → AreFew (graph_lines (new_graphs q fs)) → AllKept (new_graphs q fs)
    new-kept q [] h few l = tt
    new-kept q (f ∷ fs) h few l =
        let m = new_graph f q in
        let rest = new_graphs (q + size m) fs in
        let lines = graph-few m rest l in
        (h.0 0 (suc q) (omega (arith, few)) lines.0, new-kept (q + size m) fs h.1 (omega (arith, few)) lines.1)
