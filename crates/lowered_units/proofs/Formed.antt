-- A translated unit is formed.
use Rattle.std.proofs.Common.{◌≡◌, ℕ, suc, ◌+◌, inl, inr, List, [], ◌∷◌, ◌++◌, map, slice_get, Option, Some, None, refl, sym, ap, subst, ◌∙◌, arith}
use Rattle.std.specs.Prelude.{All}
use Rattle.std.proofs.lemmas.List.Elements.{All-nil, All-cons}
use Rattle.if1_graph.specs.Spelling.{IsQuotable}
use Rattle.if1_graph.specs.declared.graph.Graph.{Graph}
use Rattle.if1_graph.specs.declared.graph.Graph.TheViews.{out-Graph}
use Rattle.if1_graph.specs.declared.graph.Unit1.{Unit1}
use Rattle.if1_graph.specs.Formed.{IsTable, IsWholeType, IsImport, IsFormed}
use Rattle.typed_tree.specs.declared.expr.TypedExpr.{TypedExpr}
use Rattle.typed_tree.specs.declared.program.Function as typed
use Rattle.typed_tree.specs.declared.program.Program.{Program}
use Rattle.lowering.specs.declared.graph.LoweredGraph.{LoweredGraph}
use Rattle.lowering.specs.declared.graph.Lowered.{Lowered}
use Rattle.lowering.specs.Graphs.{size, closed}
use Rattle.lowering.specs.Programs.{functions_lowered, graphs}
use Rattle.lowering.specs.TooMany.{too_many}
use Rattle.lowering.specs.Types.{Labelled, Table, basics, function_label, header_need, body_needs, with_needs, table, header_label}
use Rattle.lowered_units.specs.Fitting.{HaveMembers, IsFitting}
use Rattle.lowered_units.specs.Listed.{ListedGraph, Listing, all_of, listing}
use Rattle.lowered_units.specs.Units.{inner_graphs, function_graph, function_listings, name_of, import_if, imports_of, entries_from, IsTranslated}
use Rattle.lowered_units.proofs.Bodies.{bodies-formed}
use Rattle.lowered_units.proofs.Edges.{called-quotable}
use Rattle.lowered_units.proofs.Entries.{strip, whole_listing, whole-strips}
use Rattle.lowered_units.proofs.Heads.{In, listing-is}
use Rattle.lowered_units.proofs.KeptTrees.{small-ports}
use Rattle.lowered_units.proofs.Lined.{HasLabel, header_table, after-headers, grown-length}
use Rattle.lowered_units.proofs.Nested.{AreNested}
use Rattle.lowered_units.proofs.OneUnit.{inside_in, head_of, nil-is-no-cons, heads, tails}
use Rattle.lowered_units.proofs.Placed.{From, AreInner, all-placed}
use Rattle.lowering.proofs.Stable.{function-stays}
use Rattle.lowered_units.proofs.Tabled.{IsWellTable, IsHeaded, function-well, basics-well}
use Rattle.lowering.proofs.Tables.{function-grows, Grows, grows-then, grows-none, bodies-grow}
use Rattle.lowered_units.proofs.Typed.{headed, types-formed}
use Rattle.lowered_units.proofs.Whole.{whole-label}

module _ (p : Program) where
  -- ---- numbers

  inner-from : (q : ℕ) (ds : List LoweredGraph) → From q (inner_graphs p q ds)
  inner-from q [] = tt
  inner-from q (d ∷ ds) = (refl, inner-from (suc q) ds)

  from-strips : (q : ℕ) (xs : Listing) → From q (map strip xs) → From q xs
  from-strips q [] h = tt
  from-strips q (x ∷ xs) h = (h.0, from-strips (suc q) xs h.1)

  whole-from : From 1 (whole_listing p)
  whole-from = from-strips 1 (whole_listing p) (subst (From 1) (sym (whole-strips p)) (inner-from 1 (graphs p)))

  -- ---- headers

  inner-graphs : (q : ℕ) (ds : List LoweredGraph) → AreInner (inner_graphs p q ds)
  inner-graphs q [] x i = absurd i
  inner-graphs q (d ∷ ds) x (inl e) =
      record { fun = ap (λ (y : ListedGraph). y.fun) e; exported = ap (λ (y : ListedGraph). y.exported) e; name = ap (λ (y : ListedGraph). y.name) e }
  inner-graphs q (d ∷ ds) x (inr i) = inner-graphs (suc q) ds x i

  pub record Headed (fs : List typed.Function) (g : Graph) : Type 0 where
    pub function : typed.Function
    pub there : In function fs
    pub fun : (out-Graph g).fun ≡ header_label p function
    pub name : (out-Graph g).name ≡ name_of p function
    pub inner : AreInner (inside_in (out-Graph g).nodes)

  headers-of : (place q : ℕ) (fs : List typed.Function) (ms : List Lowered) (gs : List Graph) → map listing gs ≡ function_listings p place q fs ms → (g : Graph) → In g gs → Headed fs g
  headers-of place q fs ms [] e g i = absurd i
  headers-of place q [] ms (x ∷ gs) e g i = nil-is-no-cons (listing x) (map listing gs) (sym e)
  headers-of place q (f ∷ fs) [] (x ∷ gs) e g i = nil-is-no-cons (listing x) (map listing gs) (sym e)
  headers-of place q (f ∷ fs) (m ∷ ms) (x ∷ gs) e g (inl s) =
      let own = function_graph p place f q (closed [] 0 0 m) ∷ inner_graphs p (suc q) m.graphs in
      let rest = function_listings p (suc place) (q + size m) fs ms in
      let here = sym (listing-is x) ∙ heads (listing x) own (map listing gs) rest e in
      let head = heads (head_of x) (function_graph p place f q (closed [] 0 0 m)) (inside_in (out-Graph x).nodes) (inner_graphs p (suc q) m.graphs) here in
      let inside = tails (head_of x) (function_graph p place f q (closed [] 0 0 m)) (inside_in (out-Graph x).nodes) (inner_graphs p (suc q) m.graphs) here in
      record {
        function = f;
        there = inl refl;
        fun = ap (λ (y : Graph). (out-Graph y).fun) s ∙ ap (λ (y : ListedGraph). y.fun) head;
        name = ap (λ (y : Graph). (out-Graph y).name) s ∙ ap (λ (y : ListedGraph). y.name) head;
        inner = subst (λ (y : Graph). AreInner (inside_in (out-Graph y).nodes)) (sym s) (subst AreInner (sym inside) (inner-graphs (suc q) m.graphs));
      }
  headers-of place q (f ∷ fs) (m ∷ ms) (x ∷ gs) e g (inr i) =
      let own = function_graph p place f q (closed [] 0 0 m) ∷ inner_graphs p (suc q) m.graphs in
      let rest = function_listings p (suc place) (q + size m) fs ms in
      let h = headers-of (suc place) (q + size m) fs ms gs (tails (listing x) own (map listing gs) rest e) g i in
      record { function = h.function; there = inr h.there; fun = h.fun; name = h.name; inner = h.inner }

  module _ (fit : IsFitting p) (members : HaveMembers p.types) where
    headers-grow : (fs : List typed.Function) (ts : Table) → Grows ts (with_needs (map (header_need p) fs) ts)
    headers-grow [] ts = grows-none ts
    headers-grow (f ∷ fs) ts =
        grows-then ts (function_label p.types p.names f ts).table (with_needs (map (header_need p) fs) (function_label p.types p.names f ts).table) (function-grows p.types p.names f ts) (headers-grow fs (function_label p.types p.names f ts).table)

    header-labels : (fs : List typed.Function) → ((k : ℕ) (f : typed.Function) → slice_get fs k ≡ Some f → IsHeaded p.types p.names fit.visible fit.types members f) → (ts : Table) → IsWellTable ts → (later : Table) → Grows (with_needs (map (header_need p) fs) ts) later
        → (f : typed.Function) → In f fs → HasLabel later (function_label p.types p.names f later)
    header-labels [] h ts w later g f i = absurd i
    header-labels (x ∷ fs) h ts w later g f (inl e) =
        let r = function_label p.types p.names x ts in
        let k = function-well p.types p.names fit.visible fit.types members x (h 0 x refl) ts w in
        let grown = grows-then r.table (with_needs (map (header_need p) fs) r.table) later (headers-grow fs r.table) g in
        let same : (function_label p.types p.names f later).label ≡ r.label =
        ap (λ (y : typed.Function). (function_label p.types p.names y later).label) e ∙ ap (λ (y : Labelled). y.label) (function-stays p.types p.names x ts later grown) in
        (omega (arith, same, k.1), omega (arith, same, k.0.label, grown-length r.table later grown))
    header-labels (x ∷ fs) h ts w later g f (inr i) =
        header-labels fs (λ k y e. h (suc k) y e) (function_label p.types p.names x ts).table (function-well p.types p.names fit.visible fit.types members x (h 0 x refl) ts w).0.well later g f i

    header-whole : too_many p ≡ None → (f : typed.Function) → In f p.functions → IsWholeType (entries_from p 1 (table p)) (header_label p f)
    header-whole few f i =
        let grown = subst (Grows (header_table p fit members)) (sym (after-headers p fit members p.functions (body_needs p p.functions (functions_lowered p)) basics)) (bodies-grow p p.functions (functions_lowered p) (header_table p fit members)) in
        let h = header-labels p.functions (headed p fit members) basics basics-well (table p) grown f i in
        whole-label p fit members few (header_label p f) h.0 h.1

    imports-formed : too_many p ≡ None → (fs : List typed.Function) → ((f : typed.Function) → In f fs → In f p.functions) → All (IsImport (entries_from p 1 (table p))) (imports_of p fs)
    imports-formed few [] i = All-nil (IsImport (entries_from p 1 (table p)))
    imports-formed few (f ∷ fs) i = by f.body (imports-formed few fs (λ x j. i x (inr j)))
      where
        by : (b : Option (List TypedExpr)) → All (IsImport (entries_from p 1 (table p))) (imports_of p fs) → All (IsImport (entries_from p 1 (table p))) (import_if p f b ++ imports_of p fs)
        by None r =
            let w = header-whole few f (i f (inl refl)) in
            All-cons (IsImport (entries_from p 1 (table p))) (header_label p f, name_of p f) (imports_of p fs) (w.0, w.1, called-quotable p fit.quotable (Some f)) r
        by (Some es) r = r

    pub is-formed : (u : Unit1) → IsTranslated p u → too_many p ≡ None → AreNested u → IsFormed u
    is-formed u t few nests =
        let bodies = bodies-formed p u fit members t few (small-ports p fit few) nests in
        let placed = all-placed p u (subst (From 1) (sym (ap all_of t.graphs)) whole-from) (λ x i. subst (In x) (ap all_of t.graphs) i)
        (λ g i.
        let h = headers-of 0 1 p.functions (functions_lowered p) u.graphs t.graphs g i in
        (λ k. (subst (IsWholeType u.types) (sym h.fun) (subst (λ ts. IsWholeType ts (header_label p h.function)) (sym t.types) (header-whole few h.function h.there)), subst IsQuotable (sym h.name) (called-quotable p fit.quotable (Some h.function))), h.inner)) in
        record {
          types = subst IsTable (sym t.types) (types-formed p fit members few);
          imports = subst (λ ts. All (IsImport ts) u.imports) (sym t.types) (subst (All (IsImport (entries_from p 1 (table p)))) (sym t.imports) (imports-formed few p.functions (λ f i. i)));
          nesting = nests;
          graphs = λ k d i. record { number = (placed k d i).numbered; header = (placed k d i).header; nodes = (bodies k d i).nodes; labels = (bodies k d i).labels; few = (bodies k d i).few; edges = (bodies k d i).edges };
        }
