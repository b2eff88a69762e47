-- Functions and programs.
use Rattle.std.proofs.Common.{◌≡◌, ℕ, zero, suc, ◌+◌, ◌<◌, inl, inr, List, [], ◌∷◌, ◌++◌, map, length, get_or, Option, Some, None, refl, sym, ap, subst, ◌∙◌, arith}
use Rattle.std.specs.Prelude.{All, Contains, nat_lt, if◌then◌else◌}
use Rattle.if1_graph.specs.declared.op.Simple.TheVariants as simple
use Rattle.type_table.specs.declared.form.Form.{Form}
use Rattle.typed_tree.specs.declared.expr.TypedExpr.{TypedExpr}
use Rattle.typed_tree.specs.declared.program.Function.{Function}
use Rattle.typed_tree.specs.declared.program.Program.{Program}
use Rattle.lowering.specs.declared.feed.Carried.{Carried}
use Rattle.lowering.specs.declared.feed.Wire.{Wire}
use Rattle.lowering.specs.declared.feed.Carried.TheVariants.{One}
use Rattle.lowering.specs.declared.graph.Lowered.{Lowered}
use Rattle.lowering.specs.Feeds.{carried}
use Rattle.lowering.specs.Graphs as graphs
use Rattle.lowering.specs.Graphs.{Lowering, only, size, new_graph, new_graphs}
use Rattle.lowering.specs.Operations.{all_lowered}
use Rattle.lowering.specs.Loops.{own_inputs, types}
use Rattle.lowering.specs.Phrases as lowered
use Rattle.lowering.specs.Programs.{stub, bodies, function_lowered, functions_lowered}
use Rattle.lowering.specs.Types.{Table, basics, Need, header_need, body_needs, needs, with_needs, table}
use Rattle.lowering.specs.TooMany.{most_types, types_over}
use Rattle.line_types.specs.Traces.{Trace, no_line, all_traced, graph_lines, ones, traces, body_lines, function_lines, body_need, traced_needs, lines_of}
use Rattle.line_types.proofs.Same.{In, in-left, in-right, in-either, append-nil, Same}
use Rattle.line_types.proofs.Same as same
use Rattle.line_types.proofs.Wires.{AreFilled, filled-ports, types-ports}
use Rattle.line_types.proofs.Made.{Is, Makes, To}
use Rattle.line_types.proofs.Made as made
use Rattle.line_types.proofs.Forms.{AllTo}
use Rattle.line_types.proofs.Forms as forms_are
use Rattle.line_types.proofs.Trees.{expr-is}

module _ (forms : List Form) (names : List (List ℕ)) (fs : List Function) where
  -- ---- a function

  stub-to : (t : ℕ) → To forms names fs (stub t) (λ env. no_line (One t ∷ []))
  stub-to t env a = made.row-makes forms names fs simple.Error [] [] (One t ∷ []) 1 tt refl

  stubs-to : (ts : List ℕ) → AllTo forms names fs (map stub ts) (map (λ t env. no_line (One t ∷ [])) ts)
  stubs-to [] = tt
  stubs-to (t ∷ ts) = (stub-to t, stubs-to ts)

  exprs-to : (es : List TypedExpr) → AllTo forms names fs (map (lowered.lowers forms) es) (map (traces forms) es)
  exprs-to [] = tt
  exprs-to (e ∷ es) = ((expr-is forms names fs e).1, exprs-to es)

  -- an error for each result
  stubs-lines : (ts : List ℕ) (env : List Carried) → all_traced (map (λ t env. no_line (One t ∷ [])) ts) env ≡ no_line (ones ts)
  stubs-lines [] env = refl
  stubs-lines (t ∷ ts) env = ap (λ (x : Trace). record { lines = x.lines; values = One t ∷ x.values }) (stubs-lines ts env)

  function-alike : (f : Function) (q : ℕ) → Same forms names fs (graphs.graph_lines (new_graph (function_lowered forms f) q ∷ [])) (function_lines forms f)
  function-alike f q = by f.body
    where
      env : List Wire
      env = own_inputs 1 (map One f.params)

      env-types : types env ≡ ones f.params
      env-types = types-ports 0 1 (map One f.params)

      filled : AreFilled env
      filled = filled-ports 0 1 (map One f.params)

      by : (b : Option (List TypedExpr)) → Same forms names fs (graphs.graph_lines (all_lowered (bodies forms b f.results) env 0 (suc q) ∷ [])) (body_lines forms b f.params f.results)
      by None =
          let t = all_traced (map (λ t env. no_line (One t ∷ [])) f.results) (types env) in
          let m = all_lowered (map stub f.results) env 0 (suc q) in
          same.same-then forms names fs (graphs.graph_lines (m ∷ [])) (graph_lines (t ∷ [])) (ones f.results)
          (made.graphs-alike forms names fs (m ∷ []) (t ∷ []) (forms_are.all-to forms names fs (map stub f.results) (map (λ t env. no_line (One t ∷ [])) f.results) (stubs-to f.results) env filled 0 (suc q), tt))
          (same.same-as forms names fs (graph_lines (t ∷ [])) (ones f.results) (ap (λ (x : Trace). graph_lines (x ∷ [])) (stubs-lines f.results (types env)) ∙ append-nil (ones f.results)))
      by (Some es) =
          let ts = map (traces forms) es in
          let m = all_lowered (map (lowered.lowers forms) es) env 0 (suc q) in
          same.same-then forms names fs (graphs.graph_lines (m ∷ [])) (graph_lines (all_traced ts (types env) ∷ [])) (graph_lines (all_traced ts (ones f.params) ∷ []))
          (made.graphs-alike forms names fs (m ∷ []) (all_traced ts (types env) ∷ []) (forms_are.all-to forms names fs (map (lowered.lowers forms) es) ts (exprs-to es) env filled 0 (suc q), tt))
          (same.same-as forms names fs (graph_lines (all_traced ts (types env) ∷ [])) (graph_lines (all_traced ts (ones f.params) ∷ [])) (ap (λ l. graph_lines (all_traced ts l ∷ [])) env-types))

  -- ---- what lines carry

  split-lines : (m : Lowered) (ms : List Lowered) → graphs.graph_lines (m ∷ ms) ≡ graphs.graph_lines (m ∷ []) ++ graphs.graph_lines ms
  split-lines m ms = ap (λ l. l ++ graphs.graph_lines ms) (sym (append-nil (m.lines ++ carried m.values)))

  pub among-lines : (q : ℕ) (gs : List Function) (c : Carried) → In c (graphs.graph_lines (new_graphs q (map (function_lowered forms) gs))) → In c (lines_of forms gs)
  among-lines q [] c i = i
  among-lines q (g ∷ gs) c i =
      let m = new_graph (function_lowered forms g) q in
      let rest = new_graphs (q + size m) (map (function_lowered forms) gs) in
      elim (in-either c (graphs.graph_lines (m ∷ [])) (graphs.graph_lines rest) (subst (In c) (split-lines m rest) i)) [
        | inl a ↦ in-left c (function_lines forms g) (lines_of forms gs) ((function-alike g q).among c a)
        | inr b ↦ in-right c (function_lines forms g) (lines_of forms gs) (among-lines (q + size m) gs c b)
      ]

  -- ---- members of lists by place

  at-place : (xs : List Carried) (k : ℕ) (d : Carried) → k < length xs → In (get_or xs k d) xs
  at-place [] k d l = absurd (omega (arith, l))
  at-place (x ∷ xs) zero d l = inl refl
  at-place (x ∷ xs) (suc k) d l = inr (at-place xs k d (omega (arith, l)))

  place-of : (xs : List Carried) (c : Carried) → In c xs → Contains xs c
  place-of [] c i = absurd i
  place-of (x ∷ xs) c (inl e) = (0, omega arith, sym e)
  place-of (x ∷ xs) c (inr i) = let r = place-of xs c i in (suc r.0, omega (arith, r.1), r.2)

  pub all-contained : (xs ys : List Carried) → ((c : Carried) → In c xs → In c ys) → All (Contains ys) xs
  all-contained xs ys h k d l = place-of ys (get_or xs k d) (h (get_or xs k d) (at-place xs k d l))

-- ---- needs

-- the same lines, and the same table from each
abbrev pub SameNeed : Need → Need → Type 0
SameNeed a b = (a.line ≡ b.line) × ((ts : Table) → a.enters ts ≡ b.enters ts)

abbrev pub SameNeeds : List Need → List Need → Type 0
SameNeeds [] [] = Unit {0}
SameNeeds (a ∷ xs) (b ∷ ys) = SameNeed a b × SameNeeds xs ys
SameNeeds [] (b ∷ ys) = ⊥
SameNeeds (a ∷ xs) [] = ⊥

pub same-table : (xs ys : List Need) → SameNeeds xs ys → (ts : Table) → with_needs xs ts ≡ with_needs ys ts
same-table [] [] h ts = refl
same-table [] (b ∷ ys) h ts = absurd h
same-table (a ∷ xs) [] h ts = absurd h
same-table (a ∷ xs) (b ∷ ys) h ts = ap (with_needs xs) (h.0.1 ts) ∙ same-table xs ys h.1 (b.enters ts)

pub same-over : (xs ys : List Need) → SameNeeds xs ys → (ts : Table) → types_over xs ts ≡ types_over ys ts
same-over [] [] h ts = refl
same-over [] (b ∷ ys) h ts = absurd h
same-over (a ∷ xs) [] h ts = absurd h
same-over (a ∷ xs) (b ∷ ys) h ts =
    ap (λ t. if nat_lt most_types (length t) then Some a.line else types_over xs t) (h.0.1 ts)
    ∙ (ap (λ l. if nat_lt most_types (length (b.enters ts)) then Some l else types_over xs (b.enters ts)) h.0.0
    ∙ ap (λ o. if nat_lt most_types (length (b.enters ts)) then Some b.line else o) (same-over xs ys h.1 (b.enters ts)))

module _ (p : Program) where
  bodies-same : (q : ℕ) (fs : List Function) → SameNeeds (body_needs p fs (new_graphs q (map (function_lowered p.types) fs))) (map (body_need p) fs)
  bodies-same q [] = tt
  bodies-same q (f ∷ fs) =
      ((refl, (function-alike p.types p.names p.functions f q).table), bodies-same (q + size (new_graph (function_lowered p.types f) q)) fs)

  headers-same : (fs : List Function) (xs ys : List Need) → SameNeeds xs ys → SameNeeds (map (header_need p) fs ++ xs) (map (header_need p) fs ++ ys)
  headers-same [] xs ys h = h
  headers-same (f ∷ fs) xs ys h = ((refl, λ ts. refl), headers-same fs xs ys h)

  needs-same : SameNeeds (needs p) (traced_needs p)
  needs-same = headers-same p.functions (body_needs p p.functions (functions_lowered p)) (map (body_need p) p.functions) (bodies-same 1 p.functions)

  pub is-traced : table p ≡ with_needs (traced_needs p) basics
  is-traced = same-table (needs p) (traced_needs p) needs-same basics

  pub faults-traced : types_over (needs p) basics ≡ types_over (traced_needs p) basics
  faults-traced = same-over (needs p) (traced_needs p) needs-same basics

  pub lines-traced : All (Contains (lines_of p.types p.functions)) (graphs.graph_lines (functions_lowered p))
  lines-traced = all-contained p.types p.names p.functions (graphs.graph_lines (functions_lowered p)) (lines_of p.types p.functions) (among-lines p.types p.names p.functions 1 p.functions)
