-- Programs: their tables, their limits and their units.
use Rattle.std.proofs.Common.{◌≡◌, ℕ, suc, ◌+◌, Bool, false, ◌||◌, List, [], ◌∷◌, ◌++◌, map, length, Option, Some, None, option_map, slice_get, refl, sym, ap, ◌∙◌}
use Rattle.std.specs.Prelude.{nat_lt, nat_eq, if◌then◌else◌}
use Rattle.std.specs.List.{list_any}
use Rattle.std.proofs.lemmas.List.{length-map}
use Rattle.std.proofs.lemmas.Option.{slice_get-map}
use Rattle.if1_graph.specs.declared.graph.Origin.TheVariants as origin
use Rattle.if1_graph.specs.declared.op.Simple.TheVariants as simple
use Rattle.type_table.specs.declared.form.Form.{Form}
use Rattle.typed_tree.specs.declared.expr.TypedExpr.{TypedExpr}
use Rattle.typed_tree.specs.declared.program.Function.{Function}
use Rattle.typed_tree.specs.declared.program.Program.{Program}
use Rattle.typing_unique.specs.Bare.{renumbered_body, renumbered_function, renumbered_program}
use Rattle.lowering.specs.declared.feed.Carried.{Carried}
use Rattle.lowering.specs.declared.feed.Carried.TheVariants.{One, Callee}
use Rattle.lowering.specs.declared.feed.Wire.{Wire}
use Rattle.lowering.specs.declared.graph.Action.{Action}
use Rattle.lowering.specs.declared.graph.Action.TheVariants.{Row, Call, Whole}
use Rattle.lowering.specs.declared.graph.LoweredNode.{LoweredNode}
use Rattle.lowering.specs.declared.graph.LoweredGraph.{LoweredGraph}
use Rattle.lowering.specs.declared.graph.Lowered.{Lowered}
use Rattle.lowering.specs.Graphs.{graph_lines, size, closed, closed_graphs}
use Rattle.lowering.specs.Operations.{all_lowered}
use Rattle.lowering.specs.Loops.{own_inputs}
use Rattle.lowering.specs.Programs.{stub, bodies, function_lowered, functions_lowered}
use Rattle.lowering.specs.Types.{Table, Labelled, basics, Need, header_need, body_needs, needs, with_needs, table, label_of, header_label, with_types, function_label, carried_label}
use Rattle.lowering.specs.TooMany.{most_nodes, most_graphs, most_ports, types_over, is_large, node_ports, all_node_ports, graph_ports, header_ports, graphs_over, or_else, program_over, too_many}
use Rattle.lowered_units.specs.Listed.{ListedGraph}
use Rattle.lowered_units.specs.Units.{origin_of, edge, edge_if, name_of, called_name, listed_node, listed_nodes, edges_into, node_edges, edges_of, inner_graph, inner_graphs, function_graph, function_listings, entries_from, import_if, imports_of}
use Rattle.one_lowering.specs.Moves.{Moves}
use Rattle.one_lowering.specs.Laws.{AreLoweredAlike, AreNumbersNothing}
use Rattle.one_lowering.proofs.Moved.{moved, moved_wire, wires, moved_node, nodes, moved_graph, graphs, lines, moved_lowered, all_moved, ports-moved, ones-moved, size-moved, closed-moved, closed-graphs-moved, graph-lines-moved, Makes, AllMake, graphs-moved}
use Rattle.one_lowering.proofs.Forms.{AllTo}
use Rattle.one_lowering.proofs.Forms as forms_are
use Rattle.one_lowering.proofs.Trees.{exprs-to}
use Rattle.one_lowering.proofs.Labels.{function-moved, carried-labelled, types-same}

-- ---- sizes of graphs with other numbers

module _ (to : ℕ → ℕ) where
  large-same : (ds : List LoweredGraph) → list_any (λ (d : LoweredGraph). nat_lt most_nodes (length d.nodes)) (graphs to ds) ≡ list_any (λ (d : LoweredGraph). nat_lt most_nodes (length d.nodes)) ds
  large-same [] = refl
  large-same (d ∷ ds) =
      ap (λ k. nat_lt most_nodes k || list_any (λ (d : LoweredGraph). nat_lt most_nodes (length d.nodes)) (graphs to ds)) (length-map d.nodes (moved_node to))
      ∙ ap (λ b. nat_lt most_nodes (length d.nodes) || b) (large-same ds)

  node-ports-same : (a : Action) (ws : List Wire) → node_ports a (wires to ws) ≡ node_ports a ws
  node-ports-same (Row op) ws = ap suc (length-map ws (moved_wire to))
  node-ports-same (Call f) ws = ap suc (length-map ws (moved_wire to))
  node-ports-same (Whole c gs arms given outs) ws = refl

  nodes-ports-same : (vs : List LoweredNode) → all_node_ports (nodes to vs) ≡ all_node_ports vs
  nodes-ports-same [] = refl
  nodes-ports-same (v ∷ vs) = ap (λ k. k + all_node_ports (nodes to vs)) (node-ports-same v.action v.ins) ∙ ap (λ k. node_ports v.action v.ins + k) (nodes-ports-same vs)

  ports-same : (ds : List LoweredGraph) → graph_ports (graphs to ds) ≡ graph_ports ds
  ports-same [] = refl
  ports-same (d ∷ ds) =
      ap (λ k. k + length (wires to d.results) + graph_ports (graphs to ds)) (nodes-ports-same d.nodes)
      ∙ ap (λ k. all_node_ports d.nodes + k + graph_ports (graphs to ds)) (length-map d.results (moved_wire to))
      ∙ ap (λ k. all_node_ports d.nodes + length d.results + k) (ports-same ds)

  one-large : (m : Lowered) → is_large (moved_lowered to m) ≡ is_large m
  one-large m = ap (list_any (λ (d : LoweredGraph). nat_lt most_nodes (length d.nodes))) (closed-graphs-moved to [] 0 0 (m ∷ [])) ∙ large-same (closed_graphs [] 0 0 (m ∷ []))

  one-ports : (m : Lowered) → graph_ports (closed_graphs [] 0 0 (moved_lowered to m ∷ [])) ≡ graph_ports (closed_graphs [] 0 0 (m ∷ []))
  one-ports m = ap graph_ports (closed-graphs-moved to [] 0 0 (m ∷ [])) ∙ ports-same (closed_graphs [] 0 0 (m ∷ []))

  -- by what one function has
  abbrev over : Function → List Function → List Lowered → (gs ps : ℕ) → Bool → ℕ → ℕ → Option ℕ
  over f fs ms gs ps large g p = if large || (nat_lt most_graphs (gs + g) || nat_lt most_ports (ps + p)) then Some f.line else graphs_over fs ms (gs + g) (ps + p)

  over-same : (fs : List Function) (ms : List Lowered) (gs ps : ℕ) → graphs_over (map (renumbered_function to) fs) (all_moved to ms) gs ps ≡ graphs_over fs ms gs ps
  over-same [] ms gs ps = refl
  over-same (f ∷ fs) [] gs ps = refl
  over-same (f ∷ fs) (m ∷ ms) gs ps =
      let h = renumbered_function to f in
      let hs = map (renumbered_function to) fs in
      let n = moved_lowered to m in
      let ns = all_moved to ms in
      ap (λ b. over h hs ns gs ps b (size n) (graph_ports (closed_graphs [] 0 0 (n ∷ [])))) (one-large m)
      ∙ ap (λ k. over h hs ns gs ps (is_large m) k (graph_ports (closed_graphs [] 0 0 (n ∷ [])))) (size-moved to m)
      ∙ ap (λ k. over h hs ns gs ps (is_large m) (size m) k) (one-ports m)
      ∙ ap (λ o. if is_large m || (nat_lt most_graphs (gs + size m) || nat_lt most_ports (ps + graph_ports (closed_graphs [] 0 0 (m ∷ [])))) then Some f.line else o) (over-same fs ms (gs + size m) (ps + graph_ports (closed_graphs [] 0 0 (m ∷ []))))

  headers-same : (fs : List Function) → header_ports (map (renumbered_function to) fs) ≡ header_ports fs
  headers-same [] = refl
  headers-same (f ∷ fs) =
      ap (λ k. k + length (map to f.results) + header_ports (map (renumbered_function to) fs)) (length-map f.params to)
      ∙ ap (λ k. length f.params + k + header_ports (map (renumbered_function to) fs)) (length-map f.results to)
      ∙ ap (λ k. length f.params + length f.results + k) (headers-same fs)

  listed-same : (label : ℕ) (vs : List LoweredNode) → listed_nodes label (nodes to vs) ≡ listed_nodes label vs
  listed-same label [] = refl
  listed-same label (v ∷ vs) = ap (λ l. listed_node label v.action ∷ l) (listed-same (suc label) vs)

module _ (p : Program) (to : ℕ → ℕ) (others : List Form) (moves : Moves to p.types others) where
  abbrev r : Program
  r = renumbered_program to others p

  abbrev moved_function : Function → Function
  moved_function f = renumbered_function to f

  -- ---- functions

  stubs-to : (ts : List ℕ) → AllTo to p.types others moves (map stub ts) (map stub (map to ts))
  stubs-to [] = tt
  stubs-to (t ∷ ts) = (λ env. forms_are.row-moved to p.types others moves simple.Error [] (t ∷ []), stubs-to ts)

  bodies-to : (b : Option (List TypedExpr)) (ts : List ℕ) → AllTo to p.types others moves (bodies p.types b ts) (bodies others (renumbered_body to b) (map to ts))
  bodies-to None ts = stubs-to ts
  bodies-to (Some es) ts = exprs-to to p.types others moves es

  function-to : (f : Function) → Makes to (function_lowered p.types f) (function_lowered others (moved_function f))
  function-to f n q =
      ap (λ l. all_lowered (bodies others (renumbered_body to f.body) (map to f.results)) l n q) (ap (own_inputs 1) (ones-moved to f.params) ∙ ports-moved to 0 1 (map One f.params))
      ∙ forms_are.all-to to p.types others moves (bodies p.types f.body f.results) (bodies others (renumbered_body to f.body) (map to f.results)) (bodies-to f.body f.results) (own_inputs 1 (map One f.params)) n q

  functions-to : (fs : List Function) → AllMake to (map (function_lowered p.types) fs) (map (function_lowered others) (map moved_function fs))
  functions-to [] = tt
  functions-to (f ∷ fs) = (function-to f, functions-to fs)

  lowered-same : functions_lowered r ≡ all_moved to (functions_lowered p)
  lowered-same = graphs-moved to 1 (map (function_lowered p.types) p.functions) (map (function_lowered others) (map moved_function p.functions)) (functions-to p.functions)

  -- ---- the table

  header-same : (f : Function) → header_need r (moved_function f) ≡ header_need p f
  header-same f =
      let e : (ts : Table) → function_label others p.names (moved_function f) ts ≡ function_label p.types p.names f ts = function-moved to p.types others moves p.names f in
      λ i. record { line = f.line; enters = λ ts. (e ts i).table }

  needs-more : (fs : List Function) (xs ys : List Need) → xs ≡ ys → map (header_need r) (map moved_function fs) ++ xs ≡ map (header_need p) fs ++ ys
  needs-more [] xs ys e = e
  needs-more (f ∷ fs) xs ys e = ap (λ n. n ∷ (map (header_need r) (map moved_function fs) ++ xs)) (header-same f) ∙ ap (λ l. header_need p f ∷ l) (needs-more fs xs ys e)

  bodies-same : (fs : List Function) (ms : List Lowered) → body_needs r (map moved_function fs) (all_moved to ms) ≡ body_needs p fs ms
  bodies-same [] ms = refl
  bodies-same (f ∷ fs) [] = refl
  bodies-same (f ∷ fs) (m ∷ ms) =
      let cs = graph_lines (m ∷ []) in
      let same : graph_lines (moved_lowered to m ∷ []) ≡ lines to cs = graph-lines-moved to (m ∷ []) in
      let e : (ts : Table) → with_types others p.names (map moved_function p.functions) (lines to cs) ts ≡ with_types p.types p.names p.functions cs ts = types-same to p.types others moves p.names p.functions cs in
      ap (λ l. need f (with_types others p.names (map moved_function p.functions) l) ∷ body_needs r (map moved_function fs) (all_moved to ms)) same
      ∙ (λ i. need f (λ ts. e ts i) ∷ body_needs r (map moved_function fs) (all_moved to ms))
      ∙ ap (λ l. need f (with_types p.types p.names p.functions cs) ∷ l) (bodies-same fs ms)
    where
      need : Function → (Table → Table) → Need
      need f g = record { line = f.line; enters = g }

  needs-same : needs r ≡ needs p
  needs-same =
      needs-more p.functions (body_needs r (map moved_function p.functions) (functions_lowered r)) (body_needs p p.functions (functions_lowered p))
      (ap (body_needs r (map moved_function p.functions)) lowered-same ∙ bodies-same p.functions (functions_lowered p))

  table-same : table r ≡ table p
  table-same = ap (λ ns. with_needs ns basics) needs-same

  -- ---- limits

  program-same : program_over r ≡ program_over p
  program-same =
      ap (λ ms. graphs_over (map moved_function p.functions) ms 0 (header_ports (map moved_function p.functions))) lowered-same
      ∙ ap (graphs_over (map moved_function p.functions) (all_moved to (functions_lowered p)) 0) (headers-same to p.functions)
      ∙ over-same to p.functions (functions_lowered p) 0 (header_ports p.functions)

  pub limits-same : too_many r ≡ too_many p
  limits-same = ap (λ ns. or_else (types_over ns basics) (program_over r)) needs-same ∙ ap (or_else (types_over (needs p) basics)) program-same

  -- ---- the unit

  label-same : (c : Carried) → label_of r (moved to c) ≡ label_of p c
  label-same c =
      ap (λ t. (carried_label others p.names (map moved_function p.functions) (moved to c) t).label) table-same
      ∙ ap (λ (l : Labelled). l.label) (carried-labelled to p.types others moves p.names p.functions c (table p))

  header-label-same : (f : Function) → header_label r (moved_function f) ≡ header_label p f
  header-label-same f =
      ap (λ t. (function_label others p.names (moved_function f) t).label) table-same
      ∙ ap (λ (l : Labelled). l.label) (function-moved to p.types others moves p.names f (table p))

  into-same : (node port : ℕ) (ws : List Wire) → edges_into r node port (wires to ws) ≡ edges_into p node port ws
  into-same node port [] = refl
  into-same node port (w ∷ ws) =
      ap (λ k. edge_if node port k (origin_of w.feed) ++ edges_into r node (suc port) (wires to ws)) (label-same w.ty)
      ∙ ap (λ l. edge_if node port (label_of p w.ty) (origin_of w.feed) ++ l) (into-same node (suc port) ws)

  called-same : (f : ℕ) → called_name r (slice_get (map moved_function p.functions) f) ≡ called_name p (slice_get p.functions f)
  called-same f = ap (called_name r) (slice_get-map moved_function p.functions f) ∙ by (slice_get p.functions f)
    where
      by : (o : Option Function) → called_name r (option_map (renumbered_function to) o) ≡ called_name p o
      by None = refl
      by (Some g) = refl

  node-same : (node : ℕ) (a : Action) (ws : List Wire) → node_edges r node a (wires to ws) ≡ node_edges p node a ws
  node-same node (Row op) ws = into-same node 1 ws
  node-same node (Call f) ws =
      ap (λ k. edge node 1 k (origin.Lit (called_name r (slice_get (map moved_function p.functions) f))) ∷ edges_into r node 2 (wires to ws)) (label-same (Callee f))
      ∙ ap (λ s. edge node 1 (label_of p (Callee f)) (origin.Lit s) ∷ edges_into r node 2 (wires to ws)) (called-same f)
      ∙ ap (λ l. edge node 1 (label_of p (Callee f)) (origin.Lit (called_name p (slice_get p.functions f))) ∷ l) (into-same node 2 ws)
  node-same node (Whole c gs arms given outs) ws = into-same node 1 ws

  edges-same : (label : ℕ) (vs : List LoweredNode) (ws : List Wire) → edges_of r label (nodes to vs) (wires to ws) ≡ edges_of p label vs ws
  edges-same label [] ws = into-same 0 1 ws
  edges-same label (v ∷ vs) ws =
      ap (λ l. l ++ edges_of r (suc label) (nodes to vs) (wires to ws)) (node-same label v.action v.ins)
      ∙ ap (λ l. node_edges p label v.action v.ins ++ l) (edges-same (suc label) vs ws)

  inner-same : (number : ℕ) (d : LoweredGraph) → inner_graph r number (moved_graph to d) ≡ inner_graph p number d
  inner-same number d =
      let a = listed-same to 1 d.nodes in
      let b = edges-same 1 d.nodes d.results in
      λ i. record { number = number; exported = false; name = []; fun = 0; nodes = a i; edges = b i }

  inners-same : (number : ℕ) (ds : List LoweredGraph) → inner_graphs r number (graphs to ds) ≡ inner_graphs p number ds
  inners-same number [] = refl
  inners-same number (d ∷ ds) =
      ap (λ g. g ∷ inner_graphs r (suc number) (graphs to ds)) (inner-same number d) ∙ ap (λ l. inner_graph p number d ∷ l) (inners-same (suc number) ds)

  function-same : (place : ℕ) (f : Function) (number : ℕ) (m : Lowered) → function_graph r place (moved_function f) number (closed [] 0 0 (moved_lowered to m)) ≡ function_graph p place f number (closed [] 0 0 m)
  function-same place f number m =
      ap (function_graph r place (moved_function f) number) (closed-moved to [] 0 0 m)
      ∙ ap (λ (g : ListedGraph). with g (header_label r (moved_function f))) (inner-same number (closed [] 0 0 m))
      ∙ ap (λ k. with (inner_graph p number (closed [] 0 0 m)) k) (header-label-same f)
    where
      with : ListedGraph → ℕ → ListedGraph
      with g k = record g { exported = list_any (nat_eq place) p.defines; name = name_of p f; fun = k }

  listings-same : (place number : ℕ) (fs : List Function) (ms : List Lowered) → function_listings r place number (map moved_function fs) (all_moved to ms) ≡ function_listings p place number fs ms
  listings-same place number [] ms = refl
  listings-same place number (f ∷ fs) [] = refl
  listings-same place number (f ∷ fs) (m ∷ ms) =
      ap (λ g. (g ∷ inner_graphs r (suc number) (graphs to m.graphs)) ∷ function_listings r (suc place) (number + size (moved_lowered to m)) (map moved_function fs) (all_moved to ms)) (function-same place f number m)
      ∙ ap (λ l. (function_graph p place f number (closed [] 0 0 m) ∷ l) ∷ function_listings r (suc place) (number + size (moved_lowered to m)) (map moved_function fs) (all_moved to ms)) (inners-same (suc number) m.graphs)
      ∙ ap (λ k. (function_graph p place f number (closed [] 0 0 m) ∷ inner_graphs p (suc number) m.graphs) ∷ function_listings r (suc place) (number + k) (map moved_function fs) (all_moved to ms)) (size-moved to m)
      ∙ ap (λ l. (function_graph p place f number (closed [] 0 0 m) ∷ inner_graphs p (suc number) m.graphs) ∷ l) (listings-same (suc place) (number + size m) fs ms)

  entries-same : (label : ℕ) (ts : Table) → entries_from r label ts ≡ entries_from p label ts
  entries-same label [] = refl
  entries-same label (e ∷ es) = ap (λ l. record { label = label; code = e.code; first = e.first; second = e.second; name = e.name } ∷ l) (entries-same (suc label) es)

  import-same : (f : Function) (b : Option (List TypedExpr)) → import_if r (moved_function f) (renumbered_body to b) ≡ import_if p f b
  import-same f None = ap (λ k. (k, name_of p f) ∷ []) (header-label-same f)
  import-same f (Some es) = refl

  imports-same : (fs : List Function) → imports_of r (map moved_function fs) ≡ imports_of p fs
  imports-same [] = refl
  imports-same (f ∷ fs) = ap (λ l. l ++ imports_of r (map moved_function fs)) (import-same f f.body) ∙ ap (λ l. import_if p f f.body ++ l) (imports-same fs)

  types-are : entries_from r 1 (table r) ≡ entries_from p 1 (table p)
  types-are = ap (entries_from r 1) table-same ∙ entries-same 1 (table p)

  graphs-are : function_listings r 0 1 (map moved_function p.functions) (functions_lowered r) ≡ function_listings p 0 1 p.functions (functions_lowered p)
  graphs-are = ap (function_listings r 0 1 (map moved_function p.functions)) lowered-same ∙ listings-same 0 1 p.functions (functions_lowered p)

  there : AreLoweredAlike p r
  there = record {
    limits = sym limits-same;
    units = λ u t. record { types = t.types ∙ sym types-are; imports = t.imports ∙ sym (imports-same p.functions); graphs = t.graphs ∙ sym graphs-are };
  }

  back : AreLoweredAlike r p
  back = record {
    limits = limits-same;
    units = λ u t. record { types = t.types ∙ types-are; imports = t.imports ∙ imports-same p.functions; graphs = t.graphs ∙ graphs-are };
  }

pub numbers-nothing : AreNumbersNothing
numbers-nothing p to forms moves = (there p to forms moves, back p to forms moves)
