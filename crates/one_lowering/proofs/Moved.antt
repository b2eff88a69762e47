-- Graphs with other numbers of types: what is made of wires is the same but for these.
use Rattle.std.proofs.Common.{◌≡◌, ℕ, zero, suc, ◌+◌, Bool, true, false, List, [], ◌∷◌, ◌++◌, map, length, refl, sym, ap, ◌∙◌}
use Rattle.std.specs.Prelude.{if◌then◌else◌}
use Rattle.std.proofs.lemmas.List.{map-append, length-map}
use Rattle.if1_graph.specs.declared.op.Compound.{Compound}
use Rattle.if1_graph.specs.declared.op.Compound.TheVariants as compound
use Rattle.lowering.specs.declared.feed.Feed.{Feed}
use Rattle.lowering.specs.declared.feed.Feed.TheVariants.{Literal, Named, Absent, Port}
use Rattle.lowering.specs.declared.feed.Carried.{Carried}
use Rattle.lowering.specs.declared.feed.Carried.TheVariants.{One, Many, Callee}
use Rattle.lowering.specs.declared.feed.Wire.{Wire}
use Rattle.lowering.specs.Feeds.{wire, is_port, into, outside, outsides, one_carried, carried, has, with_new, distinct, place}
use Rattle.lowering.specs.declared.graph.Action.{Action}
use Rattle.lowering.specs.declared.graph.Action.TheVariants.{Row, Call, Whole}
use Rattle.lowering.specs.declared.graph.LoweredNode.{LoweredNode}
use Rattle.lowering.specs.declared.graph.LoweredGraph.{LoweredGraph}
use Rattle.lowering.specs.declared.graph.Lowered.{Lowered}
use Rattle.lowering.specs.Graphs.{node, Lowering, only, joined, behind, andthen, ports, callee, a_node, used_by, used, uses, resolved, closed_wires, closed_nodes, closed, all_uses, inputs, size, numbers, closed_graphs, graph_lines, whole_with, whole, tag_case_with, tag_case_on, new_graph, new_graphs}

module _ (to : ℕ → ℕ) where
  abbrev pub moved : Carried → Carried
  moved (One t) = One (to t)
  moved (Many t) = Many (to t)
  moved (Callee f) = Callee f

  abbrev pub moved_wire : Wire → Wire
  moved_wire w = wire w.feed (moved w.ty)

  abbrev pub wires : List Wire → List Wire
  wires ws = map moved_wire ws

  abbrev pub moved_node : LoweredNode → LoweredNode
  moved_node v = node v.action (wires v.ins)

  abbrev pub nodes : List LoweredNode → List LoweredNode
  nodes vs = map moved_node vs

  abbrev pub moved_graph : LoweredGraph → LoweredGraph
  moved_graph d = record { nodes = nodes d.nodes; results = wires d.results }

  abbrev pub graphs : List LoweredGraph → List LoweredGraph
  graphs ds = map moved_graph ds

  abbrev pub lines : List Carried → List Carried
  lines cs = map moved cs

  abbrev pub moved_lowered : Lowered → Lowered
  moved_lowered m = record { nodes = nodes m.nodes; graphs = graphs m.graphs; lines = lines m.lines; values = wires m.values }

  abbrev pub all_moved : List Lowered → List Lowered
  all_moved ms = map moved_lowered ms

  -- ---- wires

  pub into-moved : (ws : List Wire) → map into (wires ws) ≡ wires (map into ws)
  into-moved [] = refl
  into-moved (w ∷ ws) = ap (λ l. moved_wire (into w) ∷ l) (into-moved ws)

  pub ports-moved : (n port : ℕ) (cs : List Carried) → ports n port (lines cs) ≡ wires (ports n port cs)
  ports-moved n port [] = refl
  ports-moved n port (c ∷ cs) = ap (λ l. wire (Port 0 n port) (moved c) ∷ l) (ports-moved n (suc port) cs)

  pub ones-moved : (ts : List ℕ) → map One (map to ts) ≡ lines (map One ts)
  ones-moved [] = refl
  ones-moved (t ∷ ts) = ap (λ l. One (to t) ∷ l) (ones-moved ts)

  pub carried-moved : (ws : List Wire) → carried (wires ws) ≡ lines (carried ws)
  carried-moved [] = refl
  carried-moved (w ∷ ws) = ap (λ l. one_carried w.feed (moved w.ty) ++ l) (carried-moved ws) ∙ by w.feed
    where
      by : (f : Feed) → one_carried f (moved w.ty) ++ lines (carried ws) ≡ lines (one_carried f w.ty ++ carried ws)
      by (Literal c) = refl
      by (Named s) = refl
      by Absent = refl
      by (Port up n p) = refl

  outsides-moved : (ws : List Wire) → outsides (wires ws) ≡ wires (outsides ws)
  outsides-moved [] = refl
  outsides-moved (w ∷ ws) = ap (λ l. outside (moved w.ty) w.feed ++ l) (outsides-moved ws) ∙ by w.feed
    where
      by : (f : Feed) → outside (moved w.ty) f ++ wires (outsides ws) ≡ wires (outside w.ty f ++ outsides ws)
      by (Literal c) = refl
      by (Named s) = refl
      by Absent = refl
      by (Port zero n p) = refl
      by (Port (suc up) n p) = refl

  has-moved : (ks : List Wire) (f : Feed) → has (wires ks) f ≡ has ks f
  has-moved [] f = refl
  has-moved (k ∷ ks) f = ap (λ b. if is_port k.feed f then true else b) (has-moved ks f)

  with-new-moved : (ks : List Wire) (w : Wire) → with_new (wires ks) (moved_wire w) ≡ wires (with_new ks w)
  with-new-moved ks w = ap (λ b. if b then wires ks else wires ks ++ moved_wire w ∷ []) (has-moved ks w.feed) ∙ by (has ks w.feed)
    where
      by : (b : Bool) → (if b then wires ks else wires ks ++ moved_wire w ∷ []) ≡ wires (if b then ks else ks ++ w ∷ [])
      by true = refl
      by false = sym (map-append moved_wire ks (w ∷ []))

  distinct-moved : (ks ws : List Wire) → distinct (wires ks) (wires ws) ≡ wires (distinct ks ws)
  distinct-moved ks [] = refl
  distinct-moved ks (w ∷ ws) = ap (λ l. distinct l (wires ws)) (with-new-moved ks w) ∙ distinct-moved (with_new ks w) ws

  place-moved : (ks : List Wire) (f : Feed) → place (wires ks) f ≡ place ks f
  place-moved [] f = refl
  place-moved (k ∷ ks) f = ap (λ n. if is_port k.feed f then 0 else suc n) (place-moved ks f)

  -- ---- closed graphs

  resolved-moved : (ks : List Wire) (first own : ℕ) (f : Feed) → resolved (wires ks) first own f ≡ resolved ks first own f
  resolved-moved ks first own (Literal c) = refl
  resolved-moved ks first own (Named s) = refl
  resolved-moved ks first own Absent = refl
  resolved-moved ks first own (Port zero zero p) = refl
  resolved-moved ks first own (Port zero (suc n) p) = refl
  resolved-moved ks first own (Port (suc up) n p) = ap (λ k. Port 0 0 (suc (first + k))) (place-moved ks (Port up n p))

  closed-wires-moved : (ks : List Wire) (first own : ℕ) (ws : List Wire) → closed_wires (wires ks) first own (wires ws) ≡ wires (closed_wires ks first own ws)
  closed-wires-moved ks first own [] = refl
  closed-wires-moved ks first own (w ∷ ws) =
      ap (λ f. wire f (moved w.ty) ∷ closed_wires (wires ks) first own (wires ws)) (resolved-moved ks first own w.feed)
      ∙ ap (λ l. wire (resolved ks first own w.feed) (moved w.ty) ∷ l) (closed-wires-moved ks first own ws)

  closed-nodes-moved : (ks : List Wire) (first own : ℕ) (vs : List LoweredNode) → closed_nodes (wires ks) first own (nodes vs) ≡ nodes (closed_nodes ks first own vs)
  closed-nodes-moved ks first own [] = refl
  closed-nodes-moved ks first own (v ∷ vs) =
      ap (λ l. node v.action l ∷ closed_nodes (wires ks) first own (nodes vs)) (closed-wires-moved ks first own v.ins)
      ∙ ap (λ l. node v.action (wires (closed_wires ks first own v.ins)) ∷ l) (closed-nodes-moved ks first own vs)

  pub closed-moved : (ks : List Wire) (first own : ℕ) (m : Lowered) → closed (wires ks) first own (moved_lowered m) ≡ moved_graph (closed ks first own m)
  closed-moved ks first own m =
      let a = closed-nodes-moved ks first own m.nodes in
      let b = closed-wires-moved ks first own m.values in
      λ i. record { nodes = a i; results = b i }

  pub closed-graphs-moved : (ks : List Wire) (first own : ℕ) (ms : List Lowered) → closed_graphs (wires ks) first own (all_moved ms) ≡ graphs (closed_graphs ks first own ms)
  closed-graphs-moved ks first own [] = refl
  closed-graphs-moved ks first own (m ∷ ms) =
      ap (λ g. g ∷ (graphs m.graphs ++ closed_graphs (wires ks) first own (all_moved ms))) (closed-moved ks first own m)
      ∙ ap (λ l. moved_graph (closed ks first own m) ∷ (graphs m.graphs ++ l)) (closed-graphs-moved ks first own ms)
      ∙ ap (λ l. moved_graph (closed ks first own m) ∷ l) (sym (map-append moved_graph m.graphs (closed_graphs ks first own ms)))

  -- ---- what is used

  used-by-moved : (a : Action) (ws : List Wire) → used_by a (wires ws) ≡ wires (used_by a ws)
  used-by-moved (Row op) ws = refl
  used-by-moved (Call f) ws = refl
  used-by-moved (Whole compound.TagCase gs arms given outs) [] = refl
  used-by-moved (Whole compound.TagCase gs arms given outs) (u ∷ ks) = sym (map-append moved_wire ks (u ∷ []))
  used-by-moved (Whole compound.Select gs arms given outs) ws = refl
  used-by-moved (Whole compound.ForAll gs arms given outs) ws = refl
  used-by-moved (Whole compound.LoopA gs arms given outs) ws = refl
  used-by-moved (Whole compound.LoopB gs arms given outs) ws = refl

  used-moved : (vs : List LoweredNode) → used (nodes vs) ≡ wires (used vs)
  used-moved [] = refl
  used-moved (v ∷ vs) =
      ap (λ l. used_by v.action (wires v.ins) ++ l) (used-moved vs) ∙ ap (λ l. l ++ wires (used vs)) (used-by-moved v.action v.ins)
      ∙ sym (map-append moved_wire (used_by v.action v.ins) (used vs))

  uses-moved : (m : Lowered) → uses (moved_lowered m) ≡ wires (uses m)
  uses-moved m = ap (λ l. l ++ wires m.values) (used-moved m.nodes) ∙ sym (map-append moved_wire (used m.nodes) m.values)

  all-uses-moved : (ms : List Lowered) → all_uses (all_moved ms) ≡ wires (all_uses ms)
  all-uses-moved [] = refl
  all-uses-moved (m ∷ ms) =
      ap (λ l. uses (moved_lowered m) ++ l) (all-uses-moved ms) ∙ ap (λ l. l ++ wires (all_uses ms)) (uses-moved m) ∙ sym (map-append moved_wire (uses m) (all_uses ms))

  inputs-moved : (ms : List Lowered) → inputs (all_moved ms) ≡ wires (inputs ms)
  inputs-moved ms =
      ap (λ l. distinct [] (outsides l)) (all-uses-moved ms) ∙ ap (distinct []) (outsides-moved (all_uses ms)) ∙ distinct-moved [] (outsides (all_uses ms))

  -- ---- numbers and lines of graphs

  pub size-moved : (m : Lowered) → size (moved_lowered m) ≡ size m
  size-moved m = ap suc (length-map m.graphs moved_graph)

  pub numbers-moved : (q : ℕ) (ms : List Lowered) → numbers q (all_moved ms) ≡ numbers q ms
  numbers-moved q [] = refl
  numbers-moved q (m ∷ ms) = ap (λ k. q ∷ numbers (q + k) (all_moved ms)) (size-moved m) ∙ ap (λ l. q ∷ l) (numbers-moved (q + size m) ms)

  pub graph-lines-moved : (ms : List Lowered) → graph_lines (all_moved ms) ≡ lines (graph_lines ms)
  graph-lines-moved [] = refl
  graph-lines-moved (m ∷ ms) =
      ap (λ l. (lines m.lines ++ l) ++ graph_lines (all_moved ms)) (carried-moved m.values)
      ∙ ap (λ l. (lines m.lines ++ lines (carried m.values)) ++ l) (graph-lines-moved ms)
      ∙ ap (λ l. l ++ lines (graph_lines ms)) (sym (map-append moved m.lines (carried m.values)))
      ∙ sym (map-append moved (m.lines ++ carried m.values) (graph_lines ms))

  -- ---- what is made

  -- the second makes what the first makes
  abbrev pub Makes : Lowering → Lowering → Type 0
  Makes f h = (n q : ℕ) → h n q ≡ moved_lowered (f n q)

  joined-moved : (a b : Lowered) → joined (moved_lowered a) (moved_lowered b) ≡ moved_lowered (joined a b)
  joined-moved a b =
      let x = sym (map-append moved_node a.nodes b.nodes) in
      let y = sym (map-append moved_graph a.graphs b.graphs) in
      let z = sym (map-append moved a.lines b.lines) in
      λ i. record { nodes = x i; graphs = y i; lines = z i; values = wires b.values }

  pub then-moved : (f h : Lowering) (k l : List Wire → Lowering) → Makes f h → ((ws : List Wire) → Makes (k ws) (l (wires ws))) → Makes (andthen f k) (andthen h l)
  then-moved f h k l a b n q =
      let m = f n q in
      ap (λ x. behind n q x l) (a n q)
      ∙ ap (λ i. joined (moved_lowered m) (l (wires m.values) (n + i) (q + length (graphs m.graphs)))) (length-map m.nodes moved_node)
      ∙ ap (λ i. joined (moved_lowered m) (l (wires m.values) (n + length m.nodes) (q + i))) (length-map m.graphs moved_graph)
      ∙ ap (λ x. joined (moved_lowered m) x) (b m.values (n + length m.nodes) (q + length m.graphs))
      ∙ joined-moved m (k m.values (n + length m.nodes) (q + length m.graphs))

  pub only-moved : (ws : List Wire) → Makes (only ws) (only (wires ws))
  only-moved ws n q = refl

  pub both-moved : (vs ws : List Wire) → Makes (only (vs ++ ws)) (only (wires vs ++ wires ws))
  both-moved vs ws n q = ap (λ l. only l n q) (sym (map-append moved_wire vs ws))

  -- both, with the values of both
  pub beside-moved : (f h g k : Lowering) → Makes f h → Makes g k
      → Makes (andthen f (λ vs. andthen g (λ ws. only (vs ++ ws)))) (andthen h (λ vs. andthen k (λ ws. only (vs ++ ws))))
  beside-moved f h g k a b =
      then-moved f h (λ vs. andthen g (λ ws. only (vs ++ ws))) (λ vs. andthen k (λ ws. only (vs ++ ws))) a
      (λ vs. then-moved g k (λ ws. only (vs ++ ws)) (λ ws. only (wires vs ++ ws)) b (λ ws. both-moved vs ws))

  callee-moved : (a : Action) → callee a ≡ lines (callee a)
  callee-moved (Row op) = refl
  callee-moved (Call f) = refl
  callee-moved (Whole c gs arms given outs) = refl

  pub node-moved : (a : Action) (ins : List Wire) (port : ℕ) (cs : List Carried) → Makes (a_node a ins port cs) (a_node a (wires ins) port (lines cs))
  node-moved a ins port cs n q =
      let x = ap (λ l. callee a ++ l) (carried-moved ins) ∙ ap (λ l. l ++ lines (carried ins)) (callee-moved a) ∙ sym (map-append moved (callee a) (carried ins)) in
      let y = ports-moved (suc n) port cs in
      λ i. record { nodes = node a (wires ins) ∷ []; graphs = []; lines = x i; values = y i }

  -- ---- compound nodes

  with-moved : (ks : List Wire) (c : Compound) (ms : List Lowered) (arms : List ℕ) (given : ℕ) (ts : List ℕ) → Makes (whole_with ks c ms arms given ts) (whole_with (wires ks) c (all_moved ms) arms given (map to ts))
  with-moved ks c ms arms given ts n q =
      let a = numbers-moved q ms in
      let b = length-map ts to in
      let g = ap (λ k. closed_graphs (wires ks) 0 k (all_moved ms)) (length-map ks moved_wire) ∙ closed-graphs-moved ks 0 (length ks) ms in
      let l = ap (λ z. z ++ carried (wires ks)) (graph-lines-moved ms) ∙ ap (λ z. lines (graph_lines ms) ++ z) (carried-moved ks) ∙ sym (map-append moved (graph_lines ms) (carried ks)) in
      let v = ap (ports (suc n) 1) (ones-moved ts) ∙ ports-moved (suc n) 1 (map One ts) in
      λ i. record { nodes = node (Whole c (a i) arms given (b i)) (wires ks) ∷ []; graphs = g i; lines = l i; values = v i }

  pub whole-moved : (c : Compound) (ms : List Lowered) (arms : List ℕ) (given : ℕ) (ts : List ℕ) → Makes (whole c ms arms given ts) (whole c (all_moved ms) arms given (map to ts))
  whole-moved c ms arms given ts n q =
      ap (λ ks. whole_with ks c (all_moved ms) arms given (map to ts) n q) (inputs-moved ms) ∙ with-moved (inputs ms) c ms arms given ts n q

  tag-with-moved : (ks : List Wire) (u : Wire) (ms : List Lowered) (arms ts : List ℕ) → Makes (tag_case_with ks u ms arms ts) (tag_case_with (wires ks) (moved_wire u) (all_moved ms) arms (map to ts))
  tag-with-moved ks u ms arms ts n q =
      let a = numbers-moved q ms in
      let b = length-map ts to in
      let g = closed-graphs-moved ks 1 0 ms in
      let l = ap (λ z. z ++ carried (wires (u ∷ ks))) (graph-lines-moved ms) ∙ ap (λ z. lines (graph_lines ms) ++ z) (carried-moved (u ∷ ks)) ∙ sym (map-append moved (graph_lines ms) (carried (u ∷ ks))) in
      let v = ap (ports (suc n) 1) (ones-moved ts) ∙ ports-moved (suc n) 1 (map One ts) in
      λ i. record { nodes = node (Whole compound.TagCase (a i) arms 0 (b i)) (moved_wire u ∷ wires ks) ∷ []; graphs = g i; lines = l i; values = v i }

  pub tag-case-moved : (u : Wire) (ms : List Lowered) (arms ts : List ℕ) → Makes (tag_case_on u ms arms ts) (tag_case_on (moved_wire u) (all_moved ms) arms (map to ts))
  tag-case-moved u ms arms ts n q =
      ap (λ ks. tag_case_with ks (moved_wire u) (all_moved ms) arms (map to ts) n q) (inputs-moved ms) ∙ tag-with-moved (inputs ms) u ms arms ts n q

  -- ---- graphs one after another

  abbrev pub AllMake : List Lowering → List Lowering → Type 0
  AllMake [] [] = Unit {0}
  AllMake (f ∷ fs) (h ∷ hs) = Makes f h × AllMake fs hs
  AllMake [] (h ∷ hs) = ⊥
  AllMake (f ∷ fs) [] = ⊥

  pub graphs-moved : (q : ℕ) (fs hs : List Lowering) → AllMake fs hs → new_graphs q hs ≡ all_moved (new_graphs q fs)
  graphs-moved q [] [] r = refl
  graphs-moved q [] (h ∷ hs) r = absurd r
  graphs-moved q (f ∷ fs) [] r = absurd r
  graphs-moved q (f ∷ fs) (h ∷ hs) r =
      let m = new_graph f q in
      ap (λ x. x ∷ new_graphs (q + size x) hs) (r.0 0 (suc q))
      ∙ ap (λ k. moved_lowered m ∷ new_graphs (q + k) hs) (size-moved m)
      ∙ ap (λ l. moved_lowered m ∷ l) (graphs-moved (q + size m) fs hs r.1)
