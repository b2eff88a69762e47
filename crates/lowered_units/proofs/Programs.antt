-- What a fitting program becomes, as it is made.
use Rattle.std.proofs.Common.{◌≡◌, ℕ, zero, suc, ◌+◌, ◌<◌, List, [], ◌∷◌, ◌++◌, map, length, slice_get, Option, Some, None, refl, sym, ap, subst, ◌∙◌, arith}
use Rattle.std.specs.Prelude.{All}
use Rattle.std.proofs.lemmas.List.Elements.{All-head, All-tail}
use Rattle.std.proofs.lemmas.Option.{slice_get_within}
use Rattle.if1_graph.specs.declared.op.Simple.TheVariants as simple
use Rattle.type_table.specs.declared.form.Form.{Form}
use Rattle.type_table.specs.declared.form.Form.TheVariants as form
use Rattle.type_table.specs.declared.form.Member.{Member}
use Rattle.type_table.specs.Forms.{parts}
use Rattle.type_table.specs.Tables.{IsTable, basic_forms, members_if}
use Rattle.typed_tree.specs.declared.expr.TypedExpr.{TypedExpr}
use Rattle.typed_tree.specs.declared.program.Function.{Function}
use Rattle.typed_tree.specs.declared.program.Program.{Program}
use Rattle.typed_tree.specs.Types.{AreNumbers}
use Rattle.fitting_trees.specs.Fitting.{Header, BodyFits, FunctionFits, FunctionsFit}
use Rattle.lowering.specs.declared.feed.Carried.TheVariants.{One}
use Rattle.lowering.specs.declared.graph.LoweredGraph.{LoweredGraph}
use Rattle.lowering.specs.Graphs.{size, new_graph, new_graphs}
use Rattle.lowering.specs.Operations.{all_lowered}
use Rattle.lowering.specs.Choices.{element_in, type_in}
use Rattle.lowering.specs.Loops.{own_inputs}
use Rattle.lowering.specs.Phrases.{each, phrase, lowers}
use Rattle.lowering.specs.Programs.{stub, bodies, function_lowered, functions_lowered, graphs, graph_at}
use Rattle.lowered_units.specs.Fitting.{IsFitting}
use Rattle.lowered_units.proofs.Built.{AreTypes, Built, AllBuilt, no_graph, a_graph, To, AllTo, to_none, to_more}
use Rattle.lowered_units.proofs.Built as built
use Rattle.lowered_units.proofs.BuiltForms.{HasBasics}
use Rattle.lowered_units.proofs.BuiltForms as forms_are
use Rattle.lowered_units.proofs.BuiltTrees.{numbers-types, all-fit}
use Rattle.lowered_units.proofs.Rights.{AreRightGraphs, IsRightGraph, all-right, at-from, right-at}

-- ---- the table of types

all-at : {A : Type 0} (P : A → Type 0) (xs : List A) (i : ℕ) (x : A) → All P xs → slice_get xs i ≡ Some x → P x
all-at P [] i x h e = absurd cc
all-at P (y ∷ xs) zero x h e = subst P (same e) (All-head P y xs h)
  where
    same : Some y ≡ Some x → y ≡ x
    same e = cc
all-at P (y ∷ xs) (suc i) x h e = all-at P xs i x (All-tail P y xs h) e

member-at : (ms : List Member) (i : ℕ) (m : Member) → slice_get ms i ≡ Some m → slice_get (map (λ m. m.ty) ms) i ≡ Some m.ty
member-at [] i m e = absurd cc
member-at (x ∷ ms) zero m e = ap Some (ap (λ (m : Member). m.ty) (same e))
  where
    same : Some x ≡ Some m → x ≡ m
    same e = cc
member-at (x ∷ ms) (suc i) m e = member-at ms i m e

module _ (forms : List Form) (table : IsTable forms) where
  basic-at : (i : ℕ) (f : Form) → slice_get (basic_forms ++ table.rest) i ≡ Some f → slice_get forms i ≡ Some f
  basic-at i f e = ap (λ fs. slice_get fs i) table.basics ∙ e

  some-there : 0 < length forms
  some-there = slice_get_within forms 0 form.Boolean (basic-at 0 form.Boolean refl)

  element-below : (t : ℕ) (o : Option Form) → slice_get forms t ≡ o → element_in o < length forms
  element-below t None e = some-there
  element-below t (Some (form.Array x)) e = omega (arith, slice_get_within forms t (form.Array x) e, table.well.after_parts t (form.Array x) e 0 0 (omega arith))
  element-below t (Some (form.Stream x)) e = omega (arith, slice_get_within forms t (form.Stream x) e, table.well.after_parts t (form.Stream x) e 0 0 (omega arith))
  element-below t (Some f) e = some-there

  member-below : (t : ℕ) (f : Form) → slice_get forms t ≡ Some f → (ms : List Member) → map (λ m. m.ty) ms ≡ parts f → (tag : ℕ) (o : Option Member) → slice_get ms tag ≡ o → type_in o < length forms
  member-below t f e ms s tag None k = some-there
  member-below t f e ms s tag (Some m) k =
      let below = all-at (λ x. x < t) (parts f) tag m.ty (table.well.after_parts t f e) (ap (λ l. slice_get l tag) (sym s) ∙ member-at ms tag m k) in
      omega (arith, below, slice_get_within forms t f e)

  content-below : (t tag : ℕ) (o : Option Form) → slice_get forms t ≡ o → type_in (slice_get (members_if o) tag) < length forms
  content-below t tag None e = some-there
  content-below t tag (Some (form.Record ms)) e = member-below t (form.Record ms) e ms refl tag (slice_get ms tag) refl
  content-below t tag (Some (form.Union ms)) e = member-below t (form.Union ms) e ms refl tag (slice_get ms tag) refl
  content-below t tag (Some f) e = some-there

  pub has-basics : HasBasics forms
  has-basics = record {
    booleans = basic-at 0 form.Boolean refl;
    characters = basic-at 1 form.Character refl;
    integers = basic-at 2 form.Integer refl;
    nulls = basic-at 3 form.Null refl;
    elements = λ t. element-below t (slice_get forms t) refl;
    contents = λ t tag. content-below t tag (slice_get forms t) refl;
  }

-- ---- functions

module _ (forms : List Form) (names : List (List ℕ)) (hs : List Header) (basics : HasBasics forms) where
  abbrev count : ℕ
  count = length hs

  stub-to : (t : ℕ) → AreTypes forms count (One t ∷ []) → To forms count 1 (stub t)
  stub-to t k env a = forms_are.row-to forms count basics simple.Error [] (t ∷ []) tt tt k

  stubs-to : (ts : List ℕ) → AreTypes forms count (map One ts) → AllTo forms count (map stub ts) (length ts)
  stubs-to [] h = to_none
  stubs-to (t ∷ ts) h = subst (AllTo forms count (map stub (t ∷ ts))) (omega arith) (to_more (stub t) (map stub ts) 1 (length ts) (stub-to t (h.0, tt)) (stubs-to ts h.1))

  same-lowers : (es : List TypedExpr) → each (map (phrase forms) es) ≡ map (lowers forms) es
  same-lowers [] = refl
  same-lowers (e ∷ es) = ap (λ l. lowers forms e ∷ l) (same-lowers es)

  function-built : (h : Header) (f : Function) → FunctionFits (AreNumbers forms names) hs h f → (n q : ℕ) → Built forms count n q (function_lowered forms f n q)
  function-built h f k = by f.body k.body
    where
      good : built.AreGood forms count (own_inputs 1 (map One f.params))
      good = built.good-ports forms count 0 1 (map One f.params) (omega arith) (numbers-types forms names count f.params h.params k.params)

      by : (b : Option (List TypedExpr)) → BodyFits (AreNumbers forms names) hs h b → (n q : ℕ) → Built forms count n q (all_lowered (bodies forms b f.results) (own_inputs 1 (map One f.params)) n q)
      by None x n q = (forms_are.all-to forms count basics (map stub f.results) (length f.results) (stubs-to f.results (numbers-types forms names count f.results h.results k.results)) (own_inputs 1 (map One f.params)) good n q).0
      by (Some es) x n q =
          (forms_are.all-to forms count basics (map (lowers forms) es) (length h.results) (subst (λ z. AllTo forms count z (length h.results)) (same-lowers es) (all-fit forms names hs basics h.params es h.results x)) (own_inputs 1 (map One f.params)) good n q).0

  all-functions : (q : ℕ) (gs : List Header) (fs : List Function) → FunctionsFit (AreNumbers forms names) hs gs fs → AllBuilt forms count q (new_graphs q (map (function_lowered forms) fs))
  all-functions q [] [] h = no_graph q
  all-functions q [] (f ∷ fs) h = absurd h
  all-functions q (g ∷ gs) [] h = absurd h
  all-functions q (g ∷ gs) (f ∷ fs) h =
      let m = new_graph (function_lowered forms f) q in
      a_graph q m (new_graphs (q + size m) (map (function_lowered forms) fs)) (function-built g f h.0 0 (suc q)) (all-functions (q + size m) gs fs h.1)

fits-length : (forms : List Form) (names : List (List ℕ)) (hs gs : List Header) (fs : List Function) → FunctionsFit (AreNumbers forms names) hs gs fs → length gs ≡ length fs
fits-length forms names hs [] [] h = refl
fits-length forms names hs [] (f ∷ fs) h = absurd h
fits-length forms names hs (g ∷ gs) [] h = absurd h
fits-length forms names hs (g ∷ gs) (f ∷ fs) h = ap suc (fits-length forms names hs gs fs h.1)

module _ (p : Program) (fit : IsFitting p) where
  abbrev pub functions : ℕ
  functions = length fit.headers

  pub basics : HasBasics p.types
  basics = has-basics p.types fit.types

  pub program-built : AllBuilt p.types functions 1 (functions_lowered p)
  program-built = all-functions p.types p.names fit.headers basics 1 fit.headers p.functions fit.tree.fits

  pub function-count : functions ≡ length p.functions
  function-count = fits-length p.types p.names fit.headers fit.headers p.functions fit.tree.fits

  one-more : (i : ℕ) → suc i ≡ 1 + i
  one-more i = omega arith

  rights : AreRightGraphs p.types functions (graph_at p) (graphs p)
  rights = all-right p.types functions (graph_at p) [] 0 0 1 (functions_lowered p) program-built (at-from p.types functions (graph_at p) 1 (graphs p) (λ i d e. subst (λ k. graph_at p k ≡ Some d) (one-more i) e))

  -- what is known of the lowered graph of a number
  pub right-of : (q : ℕ) (d : LoweredGraph) → graph_at p q ≡ Some d → IsRightGraph p.types functions (graph_at p) d
  right-of zero d e = absurd cc
  right-of (suc q) d e = right-at p.types functions (graph_at p) (graphs p) q d rights e
