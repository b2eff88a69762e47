-- What fills a port carries what a line of its function says, and each of these has its label in the table.
use Rattle.std.proofs.Common.{◌≡◌, ℕ, suc, ◌+◌, ◌≤◌, ◌⊎◌, inl, inr, List, [], ◌∷◌, ◌++◌, map, length, refl, sym, ap, subst, ◌∙◌, arith}
use Rattle.std.proofs.lemmas.List.{length-append, length-map}
use Rattle.type_table.specs.declared.form.Form.{Form}
use Rattle.typed_tree.specs.declared.program.Function.{Function}
use Rattle.typed_tree.specs.declared.program.Program.{Program}
use Rattle.lowering.specs.declared.feed.Feed.{Feed}
use Rattle.lowering.specs.declared.feed.Feed.TheVariants.{Literal, Named, Absent, Port}
use Rattle.lowering.specs.declared.feed.Carried.{Carried}
use Rattle.lowering.specs.declared.feed.Carried.TheVariants.{Callee}
use Rattle.lowering.specs.declared.feed.Wire.{Wire}
use Rattle.lowering.specs.Feeds.{one_carried, carried}
use Rattle.lowering.specs.declared.graph.Action.{Action}
use Rattle.lowering.specs.declared.graph.Action.TheVariants.{Row, Call, Whole}
use Rattle.lowering.specs.declared.graph.LoweredNode.{LoweredNode}
use Rattle.lowering.specs.declared.graph.LoweredGraph.{LoweredGraph}
use Rattle.lowering.specs.declared.graph.Lowered.{Lowered}
use Rattle.lowering.specs.Graphs.{callee, graph_lines, size, inputs, closed_wires, closed_nodes, closed_graphs}
use Rattle.lowering.specs.Programs.{function_lowered, functions_lowered, graphs}
use Rattle.lowering.specs.Types.{Table, Labelled, basics, carried_label, function_label, with_types, Need, header_need, body_needs, with_needs, table}
use Rattle.lowered_units.specs.Fitting.{HaveMembers, IsFitting}
use Rattle.lowered_units.proofs.Built.{IsGap, IsLineType, Built, b_only, b_then, b_node, b_whole, b_tag, AllBuilt, no_graph, a_graph}
use Rattle.lowered_units.proofs.Entries.{length-new}
use Rattle.lowered_units.proofs.Heads.{In, in-left, in-right}
use Rattle.lowered_units.proofs.Lines.{AreLines, all-lines}
use Rattle.lowered_units.proofs.Programs.{functions, program-built, function-count}
use Rattle.lowered_units.proofs.Rights.{closed-gap}
use Rattle.lowering.proofs.Stable.{carried-stays}
use Rattle.lowered_units.proofs.Tabled.{IsWellTable, IsWell, carried-well, lines-well, basics-well}
use Rattle.lowering.proofs.Tables.{Grows, grows-none, grows-then, types-grow}
use Rattle.lowered_units.proofs.Typed.{headed, integers-in, headers-well}

-- ---- wires by lines

abbrev pub WiresIn : List Carried → List Wire → Type 0
WiresIn l [] = Unit {0}
WiresIn l (w ∷ ws) = (IsGap w.feed ⊎ In w.ty l) × WiresIn l ws

abbrev pub IsCalleeIn : List Carried → Action → Type 0
IsCalleeIn l (Call f) = In (Callee f) l
IsCalleeIn l a = Unit {0}

abbrev pub NodesIn : List Carried → List LoweredNode → Type 0
NodesIn l [] = Unit {0}
NodesIn l (v ∷ vs) = (IsCalleeIn l v.action × WiresIn l v.ins) × NodesIn l vs

abbrev pub IsGraphIn : List Carried → LoweredGraph → Type 0
IsGraphIn l d = NodesIn l d.nodes × WiresIn l d.results

abbrev pub GraphsIn : List Carried → List LoweredGraph → Type 0
GraphsIn l [] = Unit {0}
GraphsIn l (d ∷ ds) = IsGraphIn l d × GraphsIn l ds

abbrev Among : List Carried → List Carried → Type 0
Among l m = (c : Carried) → In c l → In c m

wires-more : (l m : List Carried) → Among l m → (ws : List Wire) → WiresIn l ws → WiresIn m ws
wires-more l m f [] h = tt
wires-more l m f (w ∷ ws) h = (elim h.0 [ inl g ↦ inl g | inr i ↦ inr (f w.ty i) ], wires-more l m f ws h.1)

callee-more : (l m : List Carried) → Among l m → (a : Action) → IsCalleeIn l a → IsCalleeIn m a
callee-more l m f (Row op) h = h
callee-more l m f (Call k) h = f (Callee k) h
callee-more l m f (Whole c gs arms given outs) h = h

nodes-more : (l m : List Carried) → Among l m → (vs : List LoweredNode) → NodesIn l vs → NodesIn m vs
nodes-more l m f [] h = tt
nodes-more l m f (v ∷ vs) h = ((callee-more l m f v.action h.0.0, wires-more l m f v.ins h.0.1), nodes-more l m f vs h.1)

graphs-more : (l m : List Carried) → Among l m → (ds : List LoweredGraph) → GraphsIn l ds → GraphsIn m ds
graphs-more l m f [] h = tt
graphs-more l m f (d ∷ ds) h = ((nodes-more l m f d.nodes h.0.0, wires-more l m f d.results h.0.1), graphs-more l m f ds h.1)

nodes-with : (l : List Carried) (vs ws : List LoweredNode) → NodesIn l vs → NodesIn l ws → NodesIn l (vs ++ ws)
nodes-with l [] ws a b = b
nodes-with l (v ∷ vs) ws a b = (a.0, nodes-with l vs ws a.1 b)

graphs-with : (l : List Carried) (ds es : List LoweredGraph) → GraphsIn l ds → GraphsIn l es → GraphsIn l (ds ++ es)
graphs-with l [] es a b = b
graphs-with l (d ∷ ds) es a b = (a.0, graphs-with l ds es a.1 b)

carried-in : (ws : List Wire) → WiresIn (carried ws) ws
carried-in [] = tt
carried-in (w ∷ ws) =
    (one w.feed w.ty, wires-more (carried ws) (carried (w ∷ ws)) (λ c i. in-right c (one_carried w.feed w.ty) (carried ws) i) ws (carried-in ws))
  where
    one : (f : Feed) (t : Carried) → IsGap f ⊎ In t (one_carried f t ++ carried ws)
    one Absent t = inl tt
    one (Literal c) t = inr (inl refl)
    one (Named s) t = inr (inl refl)
    one (Port up n q) t = inr (inl refl)

closed-in : (forms : List Form) (n : ℕ) (l : List Carried) (ks : List Wire) (first own : ℕ) (ws : List Wire) → WiresIn l ws → WiresIn l (closed_wires ks first own ws)
closed-in forms n l ks first own [] h = tt
closed-in forms n l ks first own (w ∷ ws) h =
    (elim h.0 [ inl g ↦ inl (closed-gap forms n ks first own w.feed g) | inr i ↦ inr i ], closed-in forms n l ks first own ws h.1)

closed-nodes-in : (forms : List Form) (n : ℕ) (l : List Carried) (ks : List Wire) (first own : ℕ) (vs : List LoweredNode) → NodesIn l vs → NodesIn l (closed_nodes ks first own vs)
closed-nodes-in forms n l ks first own [] h = tt
closed-nodes-in forms n l ks first own (v ∷ vs) h = ((h.0.0, closed-in forms n l ks first own v.ins h.0.1), closed-nodes-in forms n l ks first own vs h.1)

module _ (forms : List Form) (functions : ℕ) where
  callee-in : (a : Action) (l : List Carried) → IsCalleeIn (callee a ++ l) a
  callee-in (Row op) l = tt
  callee-in (Call f) l = inl refl
  callee-in (Whole c gs arms given outs) l = tt

  mutual
    lined : (n q : ℕ) (m : Lowered) → Built forms functions n q m → NodesIn m.lines m.nodes × GraphsIn m.lines m.graphs
    lined _ _ _ (b_only n q ws h) = (tt, tt)
    lined _ _ _ (b_then n q a b h k) =
        let x = lined n q a h in
        let y = lined (n + length a.nodes) (q + length a.graphs) b k in
        let left : Among a.lines (a.lines ++ b.lines) = λ c i. in-left c a.lines b.lines i in
        let right : Among b.lines (a.lines ++ b.lines) = λ c i. in-right c a.lines b.lines i in (
          nodes-with (a.lines ++ b.lines) a.nodes b.nodes (nodes-more a.lines (a.lines ++ b.lines) left a.nodes x.0) (nodes-more b.lines (a.lines ++ b.lines) right b.nodes y.0),
          graphs-with (a.lines ++ b.lines) a.graphs b.graphs (graphs-more a.lines (a.lines ++ b.lines) left a.graphs x.1) (graphs-more b.lines (a.lines ++ b.lines) right b.graphs y.1),
        )
    lined _ _ _ (b_node n q act ins port ts h one k) =
        (((callee-in act (carried ins), wires-more (carried ins) (callee act ++ carried ins) (λ c i. in-right c (callee act) (carried ins) i) ins (carried-in ins)), tt), tt)
    lined _ _ _ (b_whole n q c ms arms given ts h s l k) = (
      ((tt, wires-more (carried (inputs ms)) (graph_lines ms ++ carried (inputs ms)) (λ c i. in-right c (graph_lines ms) (carried (inputs ms)) i) (inputs ms) (carried-in (inputs ms))), tt),
      graphs-more (graph_lines ms) (graph_lines ms ++ carried (inputs ms)) (λ c i. in-left c (graph_lines ms) (carried (inputs ms)) i) (closed_graphs (inputs ms) 0 (length (inputs ms)) ms) (all-lined (inputs ms) 0 (length (inputs ms)) q ms h),
    )
    lined _ _ _ (b_tag n q u ms arms ts g h s l k) =
        let ws = u ∷ inputs ms in (
          ((tt, wires-more (carried ws) (graph_lines ms ++ carried ws) (λ c i. in-right c (graph_lines ms) (carried ws) i) ws (carried-in ws)), tt),
          graphs-more (graph_lines ms) (graph_lines ms ++ carried ws) (λ c i. in-left c (graph_lines ms) (carried ws) i) (closed_graphs (inputs ms) 1 0 ms) (all-lined (inputs ms) 1 0 q ms h),
        )

    pub all-lined : (ks : List Wire) (first own q : ℕ) (ms : List Lowered) → AllBuilt forms functions q ms → GraphsIn (graph_lines ms) (closed_graphs ks first own ms)
    all-lined ks first own _ _ (no_graph q) = tt
    all-lined ks first own _ _ (a_graph q m ms h r) =
        let x = lined 0 (suc q) m h in
        let whole = (m.lines ++ carried m.values) ++ graph_lines ms in
        let nodes : Among m.lines whole = λ c i. in-left c (m.lines ++ carried m.values) (graph_lines ms) (in-left c m.lines (carried m.values) i) in
        let values : Among (carried m.values) whole = λ c i. in-left c (m.lines ++ carried m.values) (graph_lines ms) (in-right c m.lines (carried m.values) i) in (
          (
            nodes-more m.lines whole nodes (closed_nodes ks first own m.nodes) (closed-nodes-in forms functions m.lines ks first own m.nodes x.0),
            wires-more (carried m.values) whole values (closed_wires ks first own m.values) (closed-in forms functions (carried m.values) ks first own m.values (carried-in m.values)),
          ),
          graphs-with whole m.graphs (closed_graphs ks first own ms) (graphs-more m.lines whole nodes m.graphs x.1)
              (graphs-more (graph_lines ms) whole (λ c i. in-right c (m.lines ++ carried m.values) (graph_lines ms) i) (closed_graphs ks first own ms) (all-lined ks first own (q + size m) ms r)),
        )

-- ---- labels

pub grown-length : (ts later : Table) → Grows ts later → length ts ≤ length later
grown-length ts later g = omega (arith, ap length g.is, length-append ts g.rest)

abbrev pub HasLabel : Table → Labelled → Type 0
HasLabel later r = (1 ≤ r.label) × (r.label ≤ length later)

module _ (p : Program) (fit : IsFitting p) (members : HaveMembers p.types) where
  abbrev line_label : Carried → Table → Labelled
  line_label c ts = carried_label p.types p.names p.functions c ts

  well-line : (c : Carried) → IsLineType p.types (functions p fit) c → (ts : Table) → IsWellTable ts → IsWell ts (line_label c ts) × (1 ≤ (line_label c ts).label)
  well-line c h ts w = carried-well p.types p.names fit.visible fit.types members p.functions (headed p fit members) (functions p fit) (function-count p fit) c h ts w

  line-labels : (cs : List Carried) → AreLines p.types (functions p fit) (integers-in p fit members) cs → (ts : Table) → IsWellTable ts → (later : Table) → Grows (with_types p.types p.names p.functions cs ts) later
      → (c : Carried) → In c cs → HasLabel later (line_label c later)
  line-labels [] h ts w later g c i = absurd i
  line-labels (x ∷ cs) h ts w later g c (inl e) =
      let r = line_label x ts in
      let k = well-line x h.0 ts w in
      let grown = grows-then r.table (with_types p.types p.names p.functions cs r.table) later (types-grow p.types p.names p.functions cs r.table) g in
      let stays = carried-stays p.types p.names p.functions x ts later grown in
      let same : (line_label c later).label ≡ r.label = ap (λ (y : Carried). (line_label y later).label) e ∙ ap (λ (y : Labelled). y.label) stays in
      (omega (arith, same, k.1), omega (arith, same, k.0.label, grown-length r.table later grown))
  line-labels (x ∷ cs) h ts w later g c (inr i) = line-labels cs h.1 (line_label x ts).table (well-line x h.0 ts w).0.well later g c i

  body-labels : (fs : List Function) (q : ℕ) (ms : List Lowered) → length fs ≡ length ms → AllBuilt p.types (functions p fit) q ms → (ts : Table) → IsWellTable ts → (later : Table) → Grows (with_needs (body_needs p fs ms) ts) later
      → (c : Carried) → In c (graph_lines ms) → HasLabel later (line_label c later)
  body-labels [] q [] l b ts w later g c i = absurd i
  body-labels [] q (m ∷ ms) l b ts w later g c i = absurd (omega (arith, l))
  body-labels (f ∷ fs) _ _ l (no_graph q) ts w later g c i = absurd i
  body-labels (f ∷ fs) _ _ l (a_graph q m ms h r) ts w later g c i =
      let cs = graph_lines (m ∷ []) in
      let lines = all-lines p.types (functions p fit) (integers-in p fit members) q (m ∷ []) (a_graph q m [] h (no_graph (q + size m))) in
      let next = with_types p.types p.names p.functions cs ts in
      let well = lines-well p.types p.names fit.visible fit.types members p.functions (headed p fit members) (functions p fit) (function-count p fit) (integers-in p fit members) cs lines ts w in
      let front = m.lines ++ carried m.values in
      apart front (graph_lines ms) c i
      (λ k. line-labels cs lines ts w later (grows-then next (with_needs (body_needs p fs ms) next) later (needs-grow fs ms next) g) c (in-left c front [] k))
      (λ k. body-labels fs (q + size m) ms (omega (arith, l)) r next well later g c k)
    where
      apart : (xs ys : List Carried) (c : Carried) → In c (xs ++ ys) → {A : Type 0} → (In c xs → A) → (In c ys → A) → A
      apart [] ys c i f g = g i
      apart (x ∷ xs) ys c (inl e) f g = f (inl e)
      apart (x ∷ xs) ys c (inr i) f g = apart xs ys c i (λ k. f (inr k)) g

      needs-grow : (fs : List Function) (ms : List Lowered) (ts : Table) → Grows ts (with_needs (body_needs p fs ms) ts)
      needs-grow [] ms ts = grows-none ts
      needs-grow (f ∷ fs) [] ts = grows-none ts
      needs-grow (f ∷ fs) (m ∷ ms) ts =
          let next = with_types p.types p.names p.functions (graph_lines (m ∷ [])) ts in
          grows-then ts next (with_needs (body_needs p fs ms) next) (types-grow p.types p.names p.functions (graph_lines (m ∷ [])) ts) (needs-grow fs ms next)

  pub after-headers : (fs : List Function) (ns : List Need) (ts : Table) → with_needs (map (header_need p) fs ++ ns) ts ≡ with_needs ns (with_needs (map (header_need p) fs) ts)
  after-headers [] ns ts = refl
  after-headers (f ∷ fs) ns ts = after-headers fs ns (function_label p.types p.names f ts).table

  abbrev pub header_table : Table
  header_table = with_needs (map (header_need p) p.functions) basics

  nil-right : (ns : List Need) → ns ++ [] ≡ ns
  nil-right [] = refl
  nil-right (n ∷ ns) = ap (λ l. n ∷ l) (nil-right ns)

  header-well : IsWellTable header_table
  header-well = subst (λ ns. IsWellTable (with_needs ns basics)) (nil-right (map (header_need p) p.functions)) (headers-well p fit members p.functions (headed p fit members) [] (λ ts w. w) basics basics-well)

  -- what a line of the program carries has its label
  pub line-labelled : (c : Carried) → In c (graph_lines (functions_lowered p)) → HasLabel (table p) (line_label c (table p))
  line-labelled c i =
      body-labels p.functions 1 (functions_lowered p) (sym (length-new p 1 (map (function_lowered p.types) p.functions) ∙ length-map p.functions (function_lowered p.types))) (program-built p fit) header_table header-well (table p)
      (subst (Grows (with_needs (body_needs p p.functions (functions_lowered p)) header_table)) (sym (after-headers p.functions (body_needs p p.functions (functions_lowered p)) basics)) (grows-none (with_needs (body_needs p p.functions (functions_lowered p)) header_table))) c i

module _ (p : Program) (fit : IsFitting p) where
  pub program-lined : GraphsIn (graph_lines (functions_lowered p)) (graphs p)
  program-lined = all-lined p.types (functions p fit) [] 0 0 1 (functions_lowered p) (program-built p fit)
