-- The functions of a translated program.
use Rattle.std.proofs.Common.{◌≡◌, ℕ, zero, suc, ◌+◌, List, [], ◌∷◌, map, slice_get, get_or, Some, refl, ap, ◌∙◌, subst, arith}
use Rattle.flow_value.specs.declared.value.Val.{Val}
use Rattle.flow_value.specs.declared.ty.Ty.{Ty}
use Rattle.if1_graph.specs.declared.graph.Unit1.{Unit1}
use Rattle.if1_graph.specs.Ready.{IsReady}
use Rattle.typed_tree.specs.declared.expr.TypedExpr.{TypedExpr}
use Rattle.typed_tree.specs.declared.program.Function.{Function}
use Rattle.typed_tree.specs.declared.program.Program.{Program}
use Rattle.typed_tree.specs.Types.{IsNumber, AreNumbers}
use Rattle.typed_tree.specs.Types as number
use Rattle.flow_value.specs.declared.ty.Ty.TheVariants as ty
use Rattle.lowering.specs.Operations.{integer}
use Rattle.typed_values.specs.Fitting.{Header, Fits}
use Rattle.typed_rows.specs.Rows.{AreOf}
use Rattle.typed_values.proofs.Values.{expressions_typed, calls_typed}
use Rattle.meaning.specs.Meaning.{calls, meaning}
use Rattle.meaning.specs.Plain.{plain_calls}
use Rattle.meaning_laws.specs.Laws.{IsGiven}
use Rattle.meaning_laws.proofs.Agree.{same, calls_same}
use Rattle.graph_meaning.specs.Carried.{Value}
use Rattle.lowering_meaning.proofs.Told.{Telling}
use Rattle.graph_meaning.specs.Demand.{Network}
use Rattle.graph_meaning.specs.Networks.{network}
use Rattle.graph_meaning.specs.Plain.{Costs}
use Rattle.lowering.specs.declared.graph.LoweredGraph.{LoweredGraph}
use Rattle.lowering.specs.Graphs.{Lowering, closed, closed_graphs, new_graph, new_graphs, numbers, size}
use Rattle.lowering.specs.Programs.{function_lowered, graphs, graph_at, number_of}
use Rattle.lowered_units.specs.Fitting.{IsFitting}
use Rattle.lowered_units.specs.Units.{IsTranslated}
use Rattle.lowered_units.proofs.Programs.{basics as basic_types}
use Rattle.lowered_units.proofs.Nested.{AreNested}
use Rattle.lowered_units.proofs.NestedTrees.{is-nested}
use Rattle.lowered_units.proofs.Running.{runs-as-lowered}
use Rattle.lowering_meaning.specs.Coverage.{Coverage, AreCovered, plain_forms}
use Rattle.lowering_meaning.specs.Laws.{IsMeant, AreValuesKept, AreCostsThere}
use Rattle.lowering_meaning.proofs.Sites.{IsAt, AreAt}
use Rattle.lowering_meaning.proofs.Inside.{part-at}
use Rattle.lowering_meaning.proofs.Forms.{Typed}
use Rattle.lowering_meaning.proofs.Trees.{FormsDrawn}
use Rattle.lowering_meaning.proofs.TreeReads.{FormsRead}
use Rattle.lowering_meaning.proofs.Functions.{FunctionAt, calls-drawn, calls-read}
use Rattle.lowering_meaning.proofs.Readied.{graph_uses}
use Rattle.lowering_meaning.proofs.Shapes.{arrays-shaped, streams-shaped, records-shaped, unions-shaped, clauses-shaped}
use Rattle.lowering_meaning.proofs.Products.{ShapesAre, product-drawn}
use Rattle.lowering_meaning.proofs.ProductReads.{product-read}
use Rattle.lowering_meaning.proofs.TurnLaws.{turns-drawn, turns-read}
use Rattle.lowering_meaning.proofs.Applied.{operation-drawn}
use Rattle.lowering_meaning.proofs.Shaped.{telling, are-told}
use Rattle.lowering_meaning.proofs.Sorts.{elements-are}

-- ---- where the graphs of functions stand

module _ (u : Network) (number : ℕ → ℕ) (shape : Telling) where
  all-at : (q : ℕ) (ds : List LoweredGraph) → ((i j : ℕ) (d : LoweredGraph) → slice_get ds i ≡ Some d → j ≡ q + i → IsAt u number shape j d) → AreAt u number shape q ds
  all-at q [] h = tt
  all-at q (d ∷ ds) h = (h 0 q d refl (omega arith), all-at (suc q) ds (λ i j e k n. h (suc i) j e k (omega (arith, n))))

  pub record Stands (n : ℕ) (g : Lowering) : Type 0 where
    pub net : IsAt u number shape n (closed [] 0 0 (new_graph g n))
    pub graphs : AreAt u number shape (suc n) (new_graph g n).graphs

  function-at : (q : ℕ) (gs : List Lowering) → AreAt u number shape q (closed_graphs [] 0 0 (new_graphs q gs)) → (f : ℕ) (g : Lowering) → slice_get gs f ≡ Some g → Stands (get_or (numbers q (new_graphs q gs)) f 0) g
  function-at q [] a f g e = absurd cc
  function-at q (x ∷ gs) a zero g e =
      let m = new_graph x q in
      let at = part-at u number shape q [] 0 0 m (new_graphs (q + size m) gs) a in
      subst (λ g. Stands q g) (same e) (record { net = at.net; graphs = at.graphs })
    where
      same : Some x ≡ Some g → x ≡ g
      same e = cc
  function-at q (x ∷ gs) a (suc f) g e =
      let m = new_graph x q in
      let at = part-at u number shape q [] 0 0 m (new_graphs (q + size m) gs) a in
      function-at (q + size m) gs at.others f g e

slice-map : {A B : Type 0} (f : A → B) (xs : List A) (i : ℕ) (x : A) → slice_get xs i ≡ Some x → slice_get (map f xs) i ≡ Some (f x)
slice-map f [] i x e = absurd cc
slice-map f (y ∷ xs) zero x e = go e
  where
    go : Some y ≡ Some x → Some (f y) ≡ Some (f x)
    go e = cc
slice-map f (y ∷ xs) (suc i) x e = slice-map f xs i x e

module _ (p : Program) (u : Unit1) (fit : IsFitting p) (t : IsTranslated p u) (ready : IsReady u) where
  abbrev N : Network
  N = network u

  abbrev num : ℕ → ℕ
  num = number_of p

  abbrev S : Telling
  S = telling p u

  stand : (cover : Coverage) (f : ℕ) (d : Function) → slice_get p.functions f ≡ Some d → FunctionAt N num S p.types p.names fit.headers p.functions cover f d
  stand cover f d e =
      let all = all-at N num S 1 (graphs p) (λ i j x s n.
      let there = ap (graph_at p) (one-more i j n) ∙ s in
      (runs-as-lowered p u fit t (is-nested p u fit t) j x there, are-told p u fit t (is-nested p u fit t) ready j x there, ap graph_uses there)) in
      let s = function-at N num S 1 (map (function_lowered p.types) p.functions) all f (function_lowered p.types d) (slice-map (function_lowered p.types) p.functions f d e) in
      record { net = s.net; graphs = s.graphs }
    where
      one-more : (i j : ℕ) → j ≡ 1 + i → j ≡ suc i
      one-more i j e = omega (arith, e)

  sound : (n : ℕ) (γ : List Ty) (e : TypedExpr) (tys : List Ty) → Fits (AreNumbers p.types p.names) fit.headers γ e tys → Typed γ (meaning n p.functions e) tys
  sound n γ e tys h names vs i o eq =
      let x = (same p.functions e names vs i).1 (n, eq) in
      expressions_typed p.types p.names fit.headers p.functions fit.tree γ tys e h x.0 names (vs, i) o x.1

  sound-calls : (n f : ℕ) (h : Header) → slice_get fit.headers f ≡ Some h → Typed h.params (calls n p.functions f) h.results
  sound-calls n f h there names vs i o eq =
      let x = (calls_same p.functions f names vs i).1 (n, eq) in
      calls_typed p.types p.names fit.headers p.functions fit.tree f h there x.0 names (vs, i) o x.1

  module _ (forms : AreCovered plain_forms p.functions) where
    nests : AreNested u
    nests = is-nested p u fit t

    -- integers have their number in every table
    int : IsNumber p.types p.names integer ty.Int
    int = number.integer (basic_types p fit).integers

    clauses : ShapesAre N num S p.types p.names fit.headers p.functions plain_forms
    clauses = clauses-shaped p u fit t nests ready

    laws : FormsDrawn N num S p.types p.names fit.headers p.functions plain_forms
    laws =
        let arrays = arrays-shaped p u fit t nests ready in
        record {
          arrays = arrays;
          operation = λ o c γ tys a n k r.
              operation-drawn N num S p.types p.names arrays (streams-shaped p u fit t nests ready) (records-shaped p u fit t nests ready) (unions-shaped p u fit t nests ready) (λ n ms i k. elements-are p u fit t n ms i k) o c γ tys a n k r;
          product = λ q ks c. product-drawn N num S p.types p.names fit.headers p.functions plain_forms clauses int q ks c;
          initial = λ t ks c. turns-drawn N num S p.types p.names fit.headers p.functions plain_forms clauses t ks c;
        }

    reads : FormsRead N num S p.types p.names fit.headers p.functions plain_forms
    reads = record {
      product = λ q ks c. product-read N num S p.types p.names fit.headers p.functions plain_forms int q ks c;
      initial = λ t ks c. turns-read N num S p.types p.names fit.headers p.functions plain_forms clauses t ks c;
    }

    pub given-is-meant : (f : ℕ) (h : Header) → slice_get fit.headers f ≡ Some h → (args values : List Val) (steps : ℕ) → AreOf h.params args → IsGiven (λ n. plain_calls n p.functions f args) values steps → IsMeant N (num f) args values steps
    given-is-meant f h there args values steps o g =
        let x = (calls_same p.functions f args values steps).0 g in
        let y = calls-drawn N num S p.types p.names fit.headers p.functions plain_forms fit.tree.fits forms sound sound-calls laws (stand plain_forms) x.0 f h there args values steps o x.1 in
        record {
          cost = y.cost;
          depth = y.fires.least + y.means.least;
          costs = y.fires.holds (y.fires.least + y.means.least) (omega arith);
          bound = y.bound;
          means = y.means.holds (y.fires.least + y.means.least) (omega arith);
        }

    pub costed-is-given : (f : ℕ) (h : Header) → slice_get fit.headers f ≡ Some h → (args : List Val) (depth cost : ℕ) → AreOf h.params args → Costs N depth (num f) (map Value args) cost
        → (values : List Val) × (steps : ℕ) × IsGiven (λ n. plain_calls n p.functions f args) values steps
    costed-is-given f h there args depth cost o c =
        let y = calls-read N num S p.types p.names fit.headers p.functions plain_forms fit.tree.fits forms sound sound-calls laws (stand plain_forms) reads depth f h there args cost o c in
        (y.value, y.steps, (calls_same p.functions f args y.value y.steps).1 (y.from.least, y.from.holds y.from.least (omega arith)))

pub values-kept : AreValuesKept
values-kept p u f args values steps c g = given-is-meant p u c.fits c.unit c.ready c.forms f c.header c.there args values steps c.typed g

pub costs-there : AreCostsThere
costs-there p u f args depth cost c k = costed-is-given p u c.fits c.unit c.ready c.forms f c.header c.there args depth cost c.typed k
