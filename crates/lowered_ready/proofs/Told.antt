-- The label of what a wire, a callee or a header has stands for its type in the unit of a program.
use Rattle.std.proofs.Common.{◌≡◌, ℕ, zero, suc, ◌<◌, ◌⊎◌, inl, inr, List, [], ◌∷◌, ◌++◌, map, length, Option, Some, None, slice_get, refl, sym, ap, subst, ◌∙◌, arith}
use Rattle.std.specs.Prelude.{All}
use Rattle.std.proofs.lemmas.List.Elements.{All-nil, All-cons, All-append}
use Rattle.std.proofs.lemmas.Option.{slice_get_within}
use Rattle.flow_value.specs.declared.ty.Ty.{Ty}
use Rattle.if1_graph.specs.declared.graph.Unit1.{Unit1}
use Rattle.if1_graph.specs.Types.{sort_at}
use Rattle.type_table.specs.declared.form.Form.TheVariants.{Integer}
use Rattle.typed_tree.specs.declared.program.Function.{Function}
use Rattle.typed_tree.specs.declared.program.Program.{Program}
use Rattle.typed_tree.specs.Types.{AreNumbers}
use Rattle.lowering_meaning.specs.FittingTreesFitting.{Header, FunctionsFit}
use Rattle.lowering.specs.declared.feed.Feed.{Feed}
use Rattle.lowering.specs.declared.feed.Feed.TheVariants.{Literal, Named, Absent, Port}
use Rattle.lowering.specs.declared.feed.Carried.{Carried}
use Rattle.lowering.specs.declared.feed.Carried.TheVariants.{One, Many, Callee}
use Rattle.lowering.specs.declared.feed.Wire.{Wire}
use Rattle.lowering.specs.declared.graph.Action.{Action}
use Rattle.lowering.specs.declared.graph.Action.TheVariants.{Row, Call, Whole}
use Rattle.lowering.specs.declared.graph.LoweredNode.{LoweredNode}
use Rattle.lowering.specs.declared.graph.LoweredGraph.{LoweredGraph}
use Rattle.lowering.specs.Feeds.{one_carried, carried}
use Rattle.lowering.specs.Graphs.{callee, graph_lines}
use Rattle.lowering.specs.Programs.{functions_lowered, graphs}
use Rattle.lowering.specs.Types.{Table, Labelled, basics, callee_label, carried_label, function_label, header_need, body_needs, with_needs, table, label_of}
use Rattle.lowering.proofs.Stable.{function-stays}
use Rattle.lowering.proofs.Tables.{Grows, grows-none, grows-then, function-grows, bodies-grow, table-begins}
use Rattle.lowering_meaning.specs.Fitting.{IsFitting}
use Rattle.lowering_meaning.specs.Units.{IsTranslated}
use Rattle.lowering_meaning.proofs.Built.{IsGap, IsLineType}
use Rattle.lowering_meaning.proofs.Heads.{In}
use Rattle.lowering_meaning.proofs.Lined.{WiresIn, IsCalleeIn, NodesIn, GraphsIn, program-lined}
use Rattle.lowering_meaning.proofs.Lines.{AreLines, all-lines}
use Rattle.lowering_meaning.proofs.Programs.{functions, basics as basic_types, program-built, function-count}
use Rattle.lowering_meaning.proofs.LowTables.{IsLow, table-low}
use Rattle.lowering_meaning.proofs.Sorts.{E, form-at, program-stays}
use Rattle.lowered_ready.specs.Sorts.{callee_sort, sort_of}
use Rattle.lowered_ready.specs.SortLaws.{HasSort, HasHeaderSort, IsNodeSorted, IsGraphSorted, IsReadBack}
use Rattle.lowered_ready.proofs.Read.{AreIn, one-shown, many-shown, function-shown}

module _ (p : Program) (fit : IsFitting p) where
  integers-in : 2 < length p.types
  integers-in = slice_get_within p.types 2 Integer (basic_types p fit).integers

  -- ---- headers

  numbers-in : (ns : List ℕ) (ts : List Ty) → AreNumbers p.types p.names ns ts → AreIn p fit.types ns
  numbers-in [] [] h = All-nil (λ n. n < length p.types)
  numbers-in [] (t ∷ ts) h = absurd h
  numbers-in (n ∷ ns) [] h = absurd h
  numbers-in (n ∷ ns) (t ∷ ts) h =
      let f = form-at p fit.types n t h.0 in
      All-cons (λ n. n < length p.types) n ns (slice_get_within p.types n f.0 f.1) (numbers-in ns ts h.1)

  record IsIn (f : Function) : Type 0 where
    params : AreIn p fit.types f.params
    results : AreIn p fit.types f.results

  fits-at : (gs : List Header) (fs : List Function) → FunctionsFit (AreNumbers p.types p.names) fit.headers gs fs → (i : ℕ) (f : Function) → slice_get fs i ≡ Some f → IsIn f
  fits-at [] [] h i f e = absurd cc
  fits-at [] (x ∷ fs) h i f e = absurd h
  fits-at (g ∷ gs) [] h i f e = absurd h
  fits-at (g ∷ gs) (x ∷ fs) h zero f e =
      subst IsIn (same e) (record { params = numbers-in x.params g.params h.0.params; results = numbers-in x.results g.results h.0.results })
    where
      same : Some x ≡ Some f → x ≡ f
      same e = cc
  fits-at (g ∷ gs) (x ∷ fs) h (suc i) f e = fits-at gs fs h.1 i f e

  function-in : (i : ℕ) (f : Function) → slice_get p.functions i ≡ Some f → IsIn f
  function-in i f e = fits-at fit.headers p.functions fit.tree.fits i f e

  -- ---- what is carried

  callee-shown : (i : ℕ) → i < length p.functions → (ts later : Table) → IsLow later → Grows basics later → Grows (callee_label p.types p.names (slice_get p.functions i) ts).table later
      → sort_at (E p later) (callee_label p.types p.names (slice_get p.functions i) ts).label ≡ Some (callee_sort p (slice_get p.functions i))
  callee-shown i within ts later low b = by (slice_get p.functions i) refl
    where
      past : (fs : List Function) (i : ℕ) → i < length fs → slice_get fs i ≡ None → ⊥
      past [] i l e = omega (arith, l)
      past (f ∷ fs) zero l e = absurd cc
      past (f ∷ fs) (suc i) l e = past fs i (omega (arith, l)) e

      by : (o : Option Function) → slice_get p.functions i ≡ o → Grows (callee_label p.types p.names o ts).table later → sort_at (E p later) (callee_label p.types p.names o ts).label ≡ Some (callee_sort p o)
      by None e g = absurd (past p.functions i within e)
      by (Some f) e g = let k = function-in i f e in function-shown p fit.types f k.params k.results ts later low b g

  carried-shown : (c : Carried) → IsLineType p.types (functions p fit) c → (ts later : Table) → IsLow later → Grows basics later → Grows (carried_label p.types p.names p.functions c ts).table later
      → sort_at (E p later) (carried_label p.types p.names p.functions c ts).label ≡ Some (sort_of p c)
  carried-shown (One n) k ts later low b g = one-shown p fit.types n k ts later low b g
  carried-shown (Many n) k ts later low b g = many-shown p fit.types n k ts later low b g
  carried-shown (Callee f) k ts later low b g = callee-shown f (omega (arith, k, function-count p fit)) ts later low b g

  line-in : (cs : List Carried) → AreLines p.types (functions p fit) integers-in cs → (c : Carried) → In c cs → IsLineType p.types (functions p fit) c
  line-in [] h c i = absurd i
  line-in (x ∷ cs) h c (inl e) = subst (IsLineType p.types (functions p fit)) (sym e) h.0
  line-in (x ∷ cs) h c (inr i) = line-in cs h.1 c i

  module _ (u : Unit1) (t : IsTranslated p u) where
    abbrev lines : List Carried
    lines = graph_lines (functions_lowered p)

    pub line-told : (c : Carried) → In c lines → HasSort p u c
    line-told c i =
        let k = line-in lines (all-lines p.types (functions p fit) integers-in 1 (functions_lowered p) (program-built p fit)) c i in
        ap (λ es. sort_at es (label_of p c)) t.types
        ∙ carried-shown c k (table p) (table p) (table-low p) (table-begins p) (subst (λ es. Grows es (table p)) (sym (program-stays p c i)) (grows-none (table p)))

    -- ---- graphs

    wires-told : (ws : List Wire) → WiresIn lines ws → All (HasSort p u) (carried ws)
    wires-told [] h = All-nil (HasSort p u)
    wires-told (w ∷ ws) h = All-append (HasSort p u) (one_carried w.feed w.ty) (carried ws) (one w.feed w.ty h.0) (wires-told ws h.1)
      where
        one : (f : Feed) (c : Carried) → IsGap f ⊎ In c lines → All (HasSort p u) (one_carried f c)
        one Absent c h = All-nil (HasSort p u)
        one (Literal x) c (inl h) = absurd h
        one (Literal x) c (inr h) = All-cons (HasSort p u) c [] (line-told c h) (All-nil (HasSort p u))
        one (Named x) c (inl h) = absurd h
        one (Named x) c (inr h) = All-cons (HasSort p u) c [] (line-told c h) (All-nil (HasSort p u))
        one (Port up n q) c (inl h) = absurd h
        one (Port up n q) c (inr h) = All-cons (HasSort p u) c [] (line-told c h) (All-nil (HasSort p u))

    callee-told : (a : Action) → IsCalleeIn lines a → All (HasSort p u) (callee a)
    callee-told (Row op) h = All-nil (HasSort p u)
    callee-told (Call f) h = All-cons (HasSort p u) (Callee f) [] (line-told (Callee f) h) (All-nil (HasSort p u))
    callee-told (Whole c gs arms given outs) h = All-nil (HasSort p u)

    nodes-told : (vs : List LoweredNode) → NodesIn lines vs → All (IsNodeSorted p u) vs
    nodes-told [] h = All-nil (IsNodeSorted p u)
    nodes-told (v ∷ vs) h =
        All-cons (IsNodeSorted p u) v vs (All-append (HasSort p u) (callee v.action) (carried v.ins) (callee-told v.action h.0.0) (wires-told v.ins h.0.1)) (nodes-told vs h.1)

    graphs-told : (ds : List LoweredGraph) → GraphsIn lines ds → All (IsGraphSorted p u) ds
    graphs-told [] h = All-nil (IsGraphSorted p u)
    graphs-told (d ∷ ds) h = All-cons (IsGraphSorted p u) d ds (record { nodes = nodes-told d.nodes h.0.0; results = wires-told d.results h.0.1 }) (graphs-told ds h.1)

  -- ---- the headers of functions

  headers-grow : (fs : List Function) (ts : Table) → Grows ts (with_needs (map (header_need p) fs) ts)
  headers-grow [] ts = grows-none ts
  headers-grow (f ∷ fs) ts =
      let next = (function_label p.types p.names f ts).table in
      grows-then ts next (with_needs (map (header_need p) fs) next) (function-grows p.types p.names f ts) (headers-grow fs next)

  after-headers : (fs : List Function) (ts : Table) → with_needs (map (header_need p) fs ++ body_needs p p.functions (functions_lowered p)) ts ≡ with_needs (body_needs p p.functions (functions_lowered p)) (with_needs (map (header_need p) fs) ts)
  after-headers [] ts = refl
  after-headers (f ∷ fs) ts = after-headers fs (function_label p.types p.names f ts).table

  abbrev Entered : Table → Function → Type 0
  Entered later f = (function_label p.types p.names f later).table ≡ later

  headers-enter : (fs : List Function) (ts later : Table) → Grows (with_needs (map (header_need p) fs) ts) later → All (Entered later) fs
  headers-enter [] ts later g = All-nil (Entered later)
  headers-enter (f ∷ fs) ts later g =
      let next = (function_label p.types p.names f ts).table in
      All-cons (Entered later) f fs
      (ap (λ (y : Labelled). y.table) (function-stays p.types p.names f ts later (grows-then next (with_needs (map (header_need p) fs) next) later (headers-grow fs next) g)))
      (headers-enter fs next later g)

  all-entered : All (Entered (table p)) p.functions
  all-entered =
      let headers = with_needs (map (header_need p) p.functions) basics in
      headers-enter p.functions basics (table p) (subst (Grows headers) (sym (after-headers p.functions basics)) (bodies-grow p p.functions (functions_lowered p) headers))

  headers-told : (u : Unit1) → IsTranslated p u → (fs : List Function) → ((i : ℕ) (f : Function) → slice_get fs i ≡ Some f → IsIn f) → All (Entered (table p)) fs → All (HasHeaderSort p u) fs
  headers-told u t [] k e = All-nil (HasHeaderSort p u)
  headers-told u t (f ∷ fs) k e =
      let i = k 0 f refl in
      All-cons (HasHeaderSort p u) f fs
      (ap (λ es. sort_at es (function_label p.types p.names f (table p)).label) t.types
      ∙ function-shown p fit.types f i.params i.results (table p) (table p) (table-low p) (table-begins p) (subst (λ es. Grows es (table p)) (sym (e 0 f (omega arith))) (grows-none (table p))))
      (headers-told u t fs (λ j x s. k (suc j) x s) (λ j x s. e (suc j) x (omega (arith, s))))

  pub read-back : (u : Unit1) → IsTranslated p u → IsReadBack p u
  read-back u t = record { graphs = graphs-told u t (graphs p) (program-lined p fit); headers = headers-told u t p.functions function-in all-entered }
