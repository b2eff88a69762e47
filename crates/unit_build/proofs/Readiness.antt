-- The lowered functions of a program within the limits are ready to be put together.
use Rattle.std.proofs.Common.{◌≡◌, ℕ, suc, ◌+◌, ◌≤◌, ◌⊎◌, inl, inr, List, [], ◌∷◌, ◌++◌, map, length, sym, subst, ◌∙◌, arith}
use Rattle.std.specs.Prelude.{All, Contains, None}
use Rattle.std.proofs.lemmas.List.{length-append, length-map}
use Rattle.std.proofs.lemmas.List.Elements.{All-nil, All-cons, All-head, All-tail}
use Rattle.if1_graph.specs.Units.{most_levels}
use Rattle.typed_tree.specs.declared.program.Program.{Program}
use Rattle.lowering.specs.declared.feed.Feed.{Feed}
use Rattle.lowering.specs.declared.feed.Feed.TheVariants.{Literal, Named, Absent, Port}
use Rattle.lowering.specs.declared.feed.Carried.{Carried}
use Rattle.lowering.specs.declared.feed.Carried.TheVariants.{Callee}
use Rattle.lowering.specs.declared.feed.Wire.{Wire}
use Rattle.lowering.specs.declared.graph.Action.{Action}
use Rattle.lowering.specs.declared.graph.Action.TheVariants.{Row, Call, Whole}
use Rattle.lowering.specs.declared.graph.LoweredNode.{LoweredNode}
use Rattle.lowering.specs.declared.graph.LoweredGraph.{LoweredGraph}
use Rattle.lowering.specs.declared.graph.Lowered.{Lowered}
use Rattle.lowering.specs.Graphs.{size, closed, closed_graphs, graph_lines}
use Rattle.lowering.specs.Programs.{function_lowered, functions_lowered, graphs}
use Rattle.lowering.specs.TooMany.{most_graphs, types_over, header_ports, program_over, too_many}
use Rattle.lowering.specs.Types.{basics, needs}
use Rattle.lowered_units.specs.Fitting.{IsFitting}
use Rattle.lowered_units.specs.Small.{IsSmallFeed, AreSmall, IsSmallGraph}
use Rattle.lowered_units.proofs.Built.{IsGap}
use Rattle.lowered_units.proofs.Counted.{few-in-all}
use Rattle.lowered_units.proofs.Entries.{length-new}
use Rattle.lowered_units.proofs.Forming.{AreFew, few-graphs, or-right}
use Rattle.lowered_units.proofs.Heads.{In}
use Rattle.lowered_units.proofs.KeptTrees.{small-ports}
use Rattle.lowered_units.proofs.Lined.{WiresIn, IsCalleeIn, NodesIn, GraphsIn, program-lined}
use Rattle.lowered_units.proofs.Nested.{AllNested}
use Rattle.lowered_units.proofs.NestedTrees.{functions-nested}
use Rattle.unit_build.specs.Labels.{unit_lines, unit_lines-is}
use Rattle.unit_build.specs.Readiness.{IsLined, IsReadyWire, AreReadyWires, IsLinedCall, IsReadyNode, IsReadyGraph, AreReady}
use Rattle.unit_build.proofs.Blocks.{all-left, all-right}
use Rattle.unit_build.proofs.Nesting.{inside-parts}

-- ---- one graph

contained : {A : Type 0} (x : A) (xs : List A) → In x xs → Contains xs x
contained x [] h = absurd h
contained x (y ∷ xs) (inl e) = (0, omega arith, sym e)
contained x (y ∷ xs) (inr h) = let r = contained x xs h in (suc r.0, omega (arith, r.1), r.2)

module _ (p : Program) where
  lined : (c : Carried) → In c (graph_lines (functions_lowered p)) → Contains (unit_lines p) c
  lined c h = subst (λ l. Contains l c) (sym (unit_lines-is p)) (contained c (graph_lines (functions_lowered p)) h)

  lined-feed : (f : Feed) (t : Carried) → IsGap f ⊎ In t (graph_lines (functions_lowered p)) → IsLined p f t
  lined-feed Absent t h = tt
  lined-feed (Literal c) t (inl h) = absurd h
  lined-feed (Named s) t (inl h) = absurd h
  lined-feed (Port up n q) t (inl h) = absurd h
  lined-feed (Literal c) t (inr h) = lined t h
  lined-feed (Named s) t (inr h) = lined t h
  lined-feed (Port up n q) t (inr h) = lined t h

  lined-call : (a : Action) → IsCalleeIn (graph_lines (functions_lowered p)) a → IsLinedCall p a
  lined-call (Row op) h = tt
  lined-call (Call f) h = lined (Callee f) h
  lined-call (Whole c gs arms given outs) h = tt

  wires-ready : (ws : List Wire) → All (λ w. IsSmallFeed w.feed) ws → WiresIn (graph_lines (functions_lowered p)) ws → All (IsReadyWire p) ws
  wires-ready [] s h = All-nil (IsReadyWire p)
  wires-ready (w ∷ ws) s h =
      All-cons (IsReadyWire p) w ws (record { small = All-head (λ w. IsSmallFeed w.feed) w ws s; lined = lined-feed w.feed w.ty h.0 })
      (wires-ready ws (All-tail (λ w. IsSmallFeed w.feed) w ws s) h.1)

  all-wires : (ws : List Wire) → AreSmall ws → WiresIn (graph_lines (functions_lowered p)) ws → AreReadyWires p ws
  all-wires ws s h = record { few = s.few; each = wires-ready ws s.feeds h }

  nodes-ready : (vs : List LoweredNode) → All (λ v. AreSmall v.ins) vs → NodesIn (graph_lines (functions_lowered p)) vs → All (IsReadyNode p) vs
  nodes-ready [] s h = All-nil (IsReadyNode p)
  nodes-ready (v ∷ vs) s h =
      All-cons (IsReadyNode p) v vs (record { call = lined-call v.action h.0.0; ins = all-wires v.ins (All-head (λ v. AreSmall v.ins) v vs s) h.0.1 })
      (nodes-ready vs (All-tail (λ v. AreSmall v.ins) v vs s) h.1)

  graphs-ready : (ds : List LoweredGraph) → AreFew ds → All IsSmallGraph ds → GraphsIn (graph_lines (functions_lowered p)) ds → All (IsReadyGraph p) ds
  graphs-ready [] f s h = All-nil (IsReadyGraph p)
  graphs-ready (d ∷ ds) f s h =
      let small = All-head IsSmallGraph d ds s in
      All-cons (IsReadyGraph p) d ds (record { few = f.0; nodes = nodes-ready d.nodes small.nodes h.0.0; results = all-wires d.results small.results h.0.1 })
      (graphs-ready ds f.1 (All-tail IsSmallGraph d ds s) h.1)

  -- ---- the functions

  all-ready : (number k : ℕ) (ms : List Lowered) → AllNested p k number ms → number + length (closed_graphs [] 0 0 ms) ≤ suc most_graphs → All (IsReadyGraph p) (closed_graphs [] 0 0 ms) → AreReady p number ms
  all-ready number k [] n few h = tt
  all-ready number k (m ∷ ms) n few h =
      let rest = closed_graphs [] 0 0 ms in
      let both = length-append m.graphs rest in
      let others = All-tail (IsReadyGraph p) (closed [] 0 0 m) (m.graphs ++ rest) h in (
        record {
          nested = record { nodes = n.0.list; same = n.0.nodes; inside = sym (inside-parts n.0.list) ∙ n.0.inside };
          few = omega (arith, few, both);
          own = All-head (IsReadyGraph p) (closed [] 0 0 m) (m.graphs ++ rest) h;
          inner = all-left (IsReadyGraph p) m.graphs rest others;
        },
        all-ready (number + size m) k ms n.1 (omega (arith, few, both)) (all-right (IsReadyGraph p) m.graphs rest others),
      )

  module _ (fit : IsFitting p) (within : too_many p ≡ None) where
    as-many : length p.functions ≡ length (functions_lowered p)
    as-many = sym (length-new p 1 (map (function_lowered p.types) p.functions) ∙ length-map p.functions (function_lowered p.types))

    not-over : program_over p ≡ None
    not-over = or-right (types_over (needs p) basics) (program_over p) within

    abbrev headers : ℕ
    headers = header_ports p.functions

    few-in-unit : length (graphs p) ≤ most_graphs
    few-in-unit = let e = few-in-all p.functions (functions_lowered p) 0 headers as-many (omega arith) not-over in omega (arith, e)

    pub functions-ready : AreReady p 1 (functions_lowered p)
    functions-ready =
        all-ready 1 most_levels (functions_lowered p) (functions-nested p p.types p.names fit.headers most_levels 1 fit.headers p.functions fit.tree.fits fit.shallow)
        (let e = few-in-unit in omega (arith, e)) (graphs-ready (graphs p) (few-graphs p.functions (functions_lowered p) 0 headers as-many not-over) (small-ports p fit within) (program-lined p fit))

    -- each function has a graph
    pub functions-few : length p.functions ≤ most_graphs
    functions-few = let e = few-in-unit in let s = at-least (functions_lowered p) in omega (arith, as-many, e, s)
      where
        at-least : (ms : List Lowered) → length ms ≤ length (closed_graphs [] 0 0 ms)
        at-least [] = omega arith
        at-least (m ∷ ms) =
            let rest = at-least ms in
            let both = length-append m.graphs (closed_graphs [] 0 0 ms) in
            omega (arith, rest, both)
