-- A fitting expression nests no deeper as graphs than as a tree, and so do the graphs of a unit.
use Rattle.std.proofs.Common.{◌≡◌, ℕ, zero, suc, ◌+◌, ◌≤◌, max, List, [], ◌∷◌, ◌++◌, map, Option, Some, None, refl, sym, ap, subst, ◌∙◌, arith}
use Rattle.std.specs.Prelude.{All}
use Rattle.std.proofs.lemmas.List.Elements.{All-nil, All-cons, All-head, All-tail}
use Rattle.flow_value.specs.declared.ty.Ty.{Ty}
use Rattle.flow_value.specs.declared.ty.Ty.TheVariants as ty
use Rattle.if1_graph.specs.declared.graph.Graph.{Graph}
use Rattle.if1_graph.specs.declared.graph.Unit1.{Unit1}
use Rattle.if1_graph.specs.declared.op.Simple.TheVariants as simple
use Rattle.if1_graph.specs.Units.{most_levels}
use Rattle.sisal_tree.specs.Depth.{greatest}
use Rattle.type_table.specs.declared.form.Form.{Form}
use Rattle.value_ops.specs.declared.operation.Operation.{Operation}
use Rattle.value_ops.specs.declared.operation.Operation.TheVariants as operation
use Rattle.typed_tree.specs.declared.expr.TypedExpr.{TypedExpr}
use Rattle.typed_tree.specs.declared.expr.TypedKind.{TypedKind}
use Rattle.typed_tree.specs.declared.expr.TypedKind.TheVariants as typed
use Rattle.typed_tree.specs.declared.expr.TypedKind.TheViews.{roll-TypedKind}
use Rattle.typed_tree.specs.declared.expr.TypedKind.TheOpen.{TypedKind-F}
use Rattle.typed_tree.specs.declared.expr.TypedKind.TheFolds.{map-TypedKind, fold-TypedKind, fold-roll-TypedKind, fold-roll-TypedExpr}
use Rattle.typed_tree.specs.declared.program.Function.{Function}
use Rattle.typed_tree.specs.declared.program.Program.{Program}
use Rattle.typed_tree.specs.Typing.{with}
use Rattle.typed_tree.specs.Types.{AreNumbers}
use Rattle.bound_trees.specs.Depths.{typed_depth, deepest, in_kind, AreWithin}
use Rattle.fitting_trees.specs.Fitting.{Header, Fits, AllFit, DefsFit, ArmsFit, BodyFits, FunctionsFit}
use Rattle.fitting_trees.specs.Fitting as is
use Rattle.lowering.specs.declared.feed.Carried.TheVariants.{One}
use Rattle.lowering.specs.declared.feed.Wire.{Wire}
use Rattle.lowering.specs.declared.graph.Lowered.{Lowered}
use Rattle.lowering.specs.Graphs.{closed, size, new_graph, new_graphs}
use Rattle.lowering.specs.Operations.{Lowers, all_lowered, wire_at, operation_lowered}
use Rattle.lowering.specs.Choices.{applied, case_lowered}
use Rattle.lowering.specs.Loops.{Phrase, own_inputs, product_lowered}
use Rattle.lowering.specs.Phrases.{Kind, each, expr_lowered, kind_lowered, phrase, phrase_kind, lowers}
use Rattle.lowering.specs.Programs.{stub, bodies, function_lowered, functions_lowered}
use Rattle.lowered_units.specs.Fitting.{IsFitting}
use Rattle.lowered_units.specs.Listed.{listing}
use Rattle.lowered_units.specs.Units.{function_graph, function_listings, inner_graphs, IsTranslated}
use Rattle.lowered_units.proofs.Nested.{IsGraphWithin, AreNested, Nests, AllNested, closed-listed}
use Rattle.lowered_units.proofs.Nested as nested
use Rattle.lowered_units.proofs.NestedForms.{NestsTo, EachNest, ListsNest}
use Rattle.lowered_units.proofs.NestedForms as forms_are
use Rattle.lowered_units.proofs.OneUnit.{all-once}

abbrev trees_depth : List TypedExpr → ℕ
trees_depth ts = greatest (map typed_depth ts)

abbrev lists_depth : List (List TypedExpr) → ℕ
lists_depth us = deepest (map (map typed_depth) us)

abbrev kind_depth : TypedKind → ℕ
kind_depth = fold-TypedKind ℕ ℕ in_kind (λ e. e.kind)

at-depth : (k : ℕ) (x : TypedKind-F TypedKind TypedExpr) (y : TypedKind) (l : ℕ) (ns : List ℕ) → y ≡ roll-TypedKind x
    → typed_depth (with l ns y) ≤ k → in_kind (map-TypedKind TypedKind TypedExpr ℕ ℕ kind_depth typed_depth x) ≤ k
at-depth k x y l ns e h =
    subst (λ d. d ≤ k) (fold-roll-TypedExpr ℕ ℕ in_kind (λ e. e.kind) (record { line = l; types = ns; kind = y }) ∙ (ap kind_depth e ∙ fold-roll-TypedKind ℕ ℕ in_kind (λ e. e.kind) x)) h

module _ (p : Program) (forms : List Form) (names : List (List ℕ)) (hs : List Header) where
  seen : (k : ℕ) (x : TypedKind-F TypedKind TypedExpr) (y : TypedKind) (l : ℕ) (ns : List ℕ) → y ≡ roll-TypedKind x
      → NestsTo p k ((kind_lowered forms (map-TypedKind TypedKind TypedExpr Kind Phrase (phrase_kind forms) (phrase forms) x)).lowers ns) → NestsTo p k (lowers forms (with l ns y))
  seen k x y l ns e h =
      subst (NestsTo p k)
      (sym (ap (λ (p : Phrase). p.lowers) (fold-roll-TypedExpr Kind Phrase (kind_lowered forms) expr_lowered (record { line = l; types = ns; kind = y }))
      ∙ (ap (λ z. (phrase_kind forms z).lowers ns) e ∙ ap (λ (z : Kind). z.lowers ns) (fold-roll-TypedKind Kind Phrase (kind_lowered forms) expr_lowered x))))
      h

  abbrev several : List TypedExpr → List Lowers
  several es = each (map (phrase forms) es)

  abbrev several_lists : List (List TypedExpr) → List (List Lowers)
  several_lists us = map each (map (map (phrase forms)) us)

  applied-nests : (k : ℕ) (o : Operation) (ws : List Wire) (ns : List ℕ) → Nests p (suc k) (applied forms o ws ns)
  applied-nests k (operation.IsTag tag) ws ns = forms_are.is-tag-nests p k forms tag ws ns
  applied-nests k o ws ns = by o (forms_are.operation-nests p (suc k) o ws ns)
    where
      by : (o : Operation) → Nests p (suc k) (operation_lowered o ws ns) → Nests p (suc k) (applied forms o ws ns)
      by (operation.IsTag tag) h = forms_are.is-tag-nests p k forms tag ws ns
      by o h = h

  mutual
    tree-nests : (γ : List Ty) (e : TypedExpr) (tys : List Ty) → Fits (AreNumbers forms names) hs γ e tys → (k : ℕ) → typed_depth e ≤ k → NestsTo p k (lowers forms e)
    tree-nests γ _ _ (is.a_constant {l = l} {ns = ns} {c = c} lit num) k h =
        seen k (TypedKind-F.Constant c) (typed.Constant c) l ns (sym (typed.rolls-Constant c)) (λ env. forms_are.constant-nests p k c ns)
    tree-nests γ _ _ (is.a_value {l = l} {level = x} {ns = ns} {a = a} there num) k h =
        seen k (TypedKind-F.Value x) (typed.Value x) l ns (sym (typed.rolls-Value x)) (λ env. nested.only-nests p k (wire_at env x ∷ []))
    tree-nests γ _ tys (is.group {l = l} {ns = ns} {ts = ts} f num) k h =
        let r = sym (typed.rolls-Group ts) in
        let d : trees_depth ts + 1 ≤ k = at-depth k (TypedKind-F.Group ts) (typed.Group ts) l ns r h in
        seen k (TypedKind-F.Group ts) (typed.Group ts) l ns r (forms_are.all-nest p k (several ts) (each-nests γ ts tys f k (omega (arith, d))))
    tree-nests γ _ _ (is.call {l = l} {f = x} {ns = ns} {g = g} {ts = ts} there f num) k h =
        let r = sym (typed.rolls-Call x ts) in
        let d : trees_depth ts + 1 ≤ k = at-depth k (TypedKind-F.Call x ts) (typed.Call x ts) l ns r h in
        seen k (TypedKind-F.Call x ts) (typed.Call x ts) l ns r (forms_are.call-nests p k x (several ts) ns (each-nests γ ts g.params f k (omega (arith, d))))
    tree-nests γ _ _ (is.apply {tys = tys} {l = l} {ns = ns} {o = o} {a = a} {ts = ts} f row num) k h =
        let r = sym (typed.rolls-Apply o ts) in
        let d : trees_depth ts + 1 ≤ k = at-depth k (TypedKind-F.Apply o ts) (typed.Apply o ts) l ns r h in
        seen k (TypedKind-F.Apply o ts) (typed.Apply o ts) l ns r
        (λ env. nested.then-nests p k (all_lowered (several ts) env) (λ ws. applied forms o ws ns) (forms_are.all-nest p k (several ts) (each-nests γ ts tys f k (omega (arith, d))) env) (λ ws. one-more k d ws))
      where
        one-more : (k : ℕ) → trees_depth ts + 1 ≤ k → (ws : List Wire) → Nests p k (applied forms o ws ns)
        one-more zero d ws = absurd (omega (arith, d))
        one-more (suc j) d ws = applied-nests j o ws ns
    tree-nests γ _ tys (is.let_in {δ = δ} {l = l} {ns = ns} {us = us} {ts = ts} fs f num) k h =
        let r = sym (typed.rolls-Let us ts) in
        let d : max (lists_depth us) (trees_depth ts) + 1 ≤ k = at-depth k (TypedKind-F.Let us ts) (typed.Let us ts) l ns r h in
        seen k (TypedKind-F.Let us ts) (typed.Let us ts) l ns r
        (forms_are.body-nests p k (several_lists us) (several ts) (defs-nest γ us δ fs k (omega (arith, d))) (each-nests (γ ++ δ) ts tys f k (omega (arith, d))))
    tree-nests γ _ tys (is.if_else {l = l} {ns = ns} {ts = ts} {us = us} {vs = vs} t f g num) zero h =
        let d : max (trees_depth ts) (max (trees_depth us) (trees_depth vs)) + 1 ≤ 0 = at-depth 0 (TypedKind-F.If ts us vs) (typed.If ts us vs) l ns (sym (typed.rolls-If ts us vs)) h in
        absurd (omega (arith, d))
    tree-nests γ _ tys (is.if_else {l = l} {ns = ns} {ts = ts} {us = us} {vs = vs} t f g num) (suc k) h =
        let r = sym (typed.rolls-If ts us vs) in
        let d : max (trees_depth ts) (max (trees_depth us) (trees_depth vs)) + 1 ≤ suc k = at-depth (suc k) (TypedKind-F.If ts us vs) (typed.If ts us vs) l ns r h in
        seen (suc k) (TypedKind-F.If ts us vs) (typed.If ts us vs) l ns r
        (forms_are.if-nests p k (several ts) (several us) (several vs) ns (each-nests γ ts (ty.Bool ∷ []) t k (omega (arith, d))) (each-nests γ us tys f k (omega (arith, d))) (each-nests γ vs tys g k (omega (arith, d))))
    tree-nests γ _ tys (is.tag_case ms contents {l = l} {ns = ns} {c = c} {ts = ts} {arms = arms} f a t tags named others one num) zero h =
        let d : max (trees_depth ts) (lists_depth arms) + 1 ≤ 0 = at-depth 0 (TypedKind-F.Case c ts arms) (typed.Case c ts arms) l ns (sym (typed.rolls-Case c ts arms)) h in
        absurd (omega (arith, d))
    tree-nests γ _ tys (is.tag_case ms contents {l = l} {ns = ns} {c = c} {ts = ts} {arms = arms} f a t tags named others one num) (suc k) h =
        let r = sym (typed.rolls-Case c ts arms) in
        let d : max (trees_depth ts) (lists_depth arms) + 1 ≤ suc k = at-depth (suc k) (TypedKind-F.Case c ts arms) (typed.Case c ts arms) l ns r h in
        seen (suc k) (TypedKind-F.Case c ts arms) (typed.Case c ts arms) l ns r
        (λ env. nested.then-nests p (suc k) (all_lowered (several ts) env) (λ ws. case_lowered forms c (several_lists arms) ns ws env) (forms_are.all-nest p (suc k) (several ts) (each-nests γ ts (ty.Uni ms ∷ []) f (suc k) (omega (arith, d))) env)
        (λ ws. forms_are.case-nests p k forms c (several_lists arms) ns ws (arms-nest γ c.named arms contents tys a k (omega (arith, d))) env))
    tree-nests γ _ made (is.product {tys = tys} {names = xs} {δ = δ} {row = row} {l = l} {ns = ns} {p = q} {bounds = bounds} {us = us} {ts = ts} b g fs f m num) zero h =
        let d : max (trees_depth bounds) (max (lists_depth us) (trees_depth ts)) + 1 ≤ 0 = at-depth 0 (TypedKind-F.Product q bounds us ts) (typed.Product q bounds us ts) l ns (sym (typed.rolls-Product q bounds us ts)) h in
        absurd (omega (arith, d))
    tree-nests γ _ made (is.product {tys = tys} {names = xs} {δ = δ} {row = row} {l = l} {ns = ns} {p = q} {bounds = bounds} {us = us} {ts = ts} b g fs f m num) (suc k) h =
        let r = sym (typed.rolls-Product q bounds us ts) in
        let d : max (trees_depth bounds) (max (lists_depth us) (trees_depth ts)) + 1 ≤ suc k = at-depth (suc k) (TypedKind-F.Product q bounds us ts) (typed.Product q bounds us ts) l ns r h in
        seen (suc k) (TypedKind-F.Product q bounds us ts) (typed.Product q bounds us ts) l ns r
        (λ env. nested.then-nests p (suc k) (all_lowered (several bounds) env) (λ ws. product_lowered forms q (several_lists us) (several ts) ns ws env) (forms_are.all-nest p (suc k) (several bounds) (each-nests γ bounds tys b (suc k) (omega (arith, d))) env)
        (λ ws. forms_are.product-nests p k forms q (several_lists us) (several ts) ns ws (defs-nest (γ ++ xs) us δ fs k (omega (arith, d))) (each-nests ((γ ++ xs) ++ δ) ts row f k (omega (arith, d))) env))
    tree-nests γ _ made (is.initial {loop = loop} {later = later} {row = row} {l = l} {ns = ns} {t = t} {us = us} {vs = vs} {tests = tests} {ts = ts} fs c v w f m num) zero h =
        let d : max (lists_depth us) (max (max (trees_depth tests) (lists_depth vs)) (trees_depth ts)) + 1 ≤ 0 = at-depth 0 (TypedKind-F.Initial t us tests vs ts) (typed.Initial t us tests vs ts) l ns (sym (typed.rolls-Initial t us tests vs ts)) h in
        absurd (omega (arith, d))
    tree-nests γ _ made (is.initial {loop = loop} {later = later} {row = row} {l = l} {ns = ns} {t = t} {us = us} {vs = vs} {tests = tests} {ts = ts} fs c v w f m num) (suc k) h =
        let r = sym (typed.rolls-Initial t us tests vs ts) in
        let d : max (lists_depth us) (max (max (trees_depth tests) (lists_depth vs)) (trees_depth ts)) + 1 ≤ suc k = at-depth (suc k) (TypedKind-F.Initial t us tests vs ts) (typed.Initial t us tests vs ts) l ns r h in
        seen (suc k) (TypedKind-F.Initial t us tests vs ts) (typed.Initial t us tests vs ts) l ns r
        (forms_are.initial-nests p k t (several_lists us) (several tests) (several_lists vs) (map (phrase forms) ts) ns (defs-nest γ us loop fs k (omega (arith, d))) (each-nests (γ ++ loop) tests (ty.Bool ∷ []) c k (omega (arith, d)))
        (defs-nest (γ ++ loop) vs later v k (omega (arith, d))) (each-nests (γ ++ loop) ts row f k (omega (arith, d))))

    each-nests : (γ : List Ty) (es : List TypedExpr) (tys : List Ty) → AllFit (AreNumbers forms names) hs γ es tys → (k : ℕ) → trees_depth es ≤ k → EachNest p k (several es)
    each-nests γ _ _ is.no_more k h = tt
    each-nests γ _ _ (is.more {tys = tys} {others = others} {t = t} {ts = ts} f g) k h = (tree-nests γ t tys f k (omega (arith, h)), each-nests γ ts others g k (omega (arith, h)))

    defs-nest : (γ : List Ty) (us : List (List TypedExpr)) (δ : List Ty) → DefsFit (AreNumbers forms names) hs γ us δ → (k : ℕ) → lists_depth us ≤ k → ListsNest p k (several_lists us)
    defs-nest γ _ _ is.no_def k h = tt
    defs-nest γ _ _ (is.a_def {tys = tys} {others = others} {ts = ts} {us = us} f g) k h = (each-nests γ ts tys f k (omega (arith, h)), defs-nest (γ ++ tys) us others g k (omega (arith, h)))

    arms-nest : (γ : List Ty) (named : ℕ) (arms : List (List TypedExpr)) (contents tys : List Ty) → ArmsFit (AreNumbers forms names) hs γ named arms contents tys → (k : ℕ) → lists_depth arms ≤ k → ListsNest p k (several_lists arms)
    arms-nest γ _ _ _ tys is.no_arm k h = tt
    arms-nest γ _ _ _ tys (is.a_named_arm {contents = contents} {named = named} a {ts = ts} {arms = arms} f g) k h =
        (each-nests (γ ++ (a ∷ [])) ts tys f k (omega (arith, h)), arms-nest γ named arms contents tys g k (omega (arith, h)))
    arms-nest γ _ _ _ tys (is.an_arm {ts = ts} {arms = arms} f g) k h = (each-nests γ ts tys f k (omega (arith, h)), arms-nest γ 0 arms [] tys g k (omega (arith, h)))

  -- ---- functions

  within-greatest : (k : ℕ) (ts : List TypedExpr) → All (λ t. typed_depth t ≤ k) ts → trees_depth ts ≤ k
  within-greatest k [] h = omega arith
  within-greatest k (t ∷ ts) h =
      let here = All-head (λ t. typed_depth t ≤ k) t ts h in
      let rest = within-greatest k ts (All-tail (λ t. typed_depth t ≤ k) t ts h) in
      omega (arith, here, rest)

  stubs-nest : (k : ℕ) (ts : List ℕ) → EachNest p k (map stub ts)
  stubs-nest k [] = tt
  stubs-nest k (t ∷ ts) = (λ env. forms_are.row-nests p k simple.Error [] (t ∷ []), stubs-nest k ts)

  body-nests : (k : ℕ) (h : Header) (b : Option (List TypedExpr)) (results : List ℕ) → BodyFits (AreNumbers forms names) hs h b → AreWithin k b → NestsTo p k (all_lowered (bodies forms b results))
  body-nests k h None results f d = forms_are.all-nest p k (map stub results) (stubs-nest k results)
  body-nests k h (Some es) results f d =
      forms_are.all-nest p k (map (lowers forms) es) (subst (EachNest p k) (same es) (each-nests h.params es h.results f k (within-greatest k es d)))
    where
      same : (es : List TypedExpr) → several es ≡ map (lowers forms) es
      same [] = refl
      same (e ∷ es) = ap (λ l. lowers forms e ∷ l) (same es)

  pub functions-nested : (k q : ℕ) (gs : List Header) (fs : List Function) → FunctionsFit (AreNumbers forms names) hs gs fs → All (λ f. AreWithin k f.body) fs → AllNested p k q (new_graphs q (map (function_lowered forms) fs))
  functions-nested k q [] [] h d = tt
  functions-nested k q [] (f ∷ fs) h d = absurd h
  functions-nested k q (g ∷ gs) [] h d = absurd h
  functions-nested k q (g ∷ gs) (f ∷ fs) h d =
      let m = new_graph (function_lowered forms f) q in (
        body-nests k g f.body f.results h.0.body (All-head (λ (f : Function). AreWithin k f.body) f fs d) (own_inputs 1 (map One f.params)) 0 (suc q),
        functions-nested k (q + size m) gs fs h.1 (All-tail (λ (f : Function). AreWithin k f.body) f fs d),
      )

-- ---- units

record Listed (p : Program) (k place q : ℕ) (fs : List Function) (ms : List Lowered) : Type 0 where
  pub list : List Graph
  pub listed : map listing list ≡ function_listings p place q fs ms
  pub deep : All (IsGraphWithin k) list

listed-within : (p : Program) (k place q : ℕ) (fs : List Function) (ms : List Lowered) → AllNested p k q ms → Listed p k place q fs ms
listed-within p k place q [] ms h = record { list = []; listed = refl; deep = All-nil (IsGraphWithin k) }
listed-within p k place q (f ∷ fs) [] h = record { list = []; listed = refl; deep = All-nil (IsGraphWithin k) }
listed-within p k place q (f ∷ fs) (m ∷ ms) h =
    let x = function_graph p place f q (closed [] 0 0 m) in
    let g = nested.made p k (suc q) m x (sym (closed-listed [] 0 0 1 m.nodes)) h.0 in
    let rest = listed-within p k (suc place) (q + size m) fs ms h.1 in
    record {
      list = g.graph ∷ rest.list;
      listed = ap (λ l. l ∷ map listing rest.list) g.listed ∙ ap (λ l. (x ∷ inner_graphs p (suc q) m.graphs) ∷ l) rest.listed;
      deep = All-cons (IsGraphWithin k) g.graph rest.list g.deep rest.deep;
    }

pub is-nested : (p : Program) (u : Unit1) → IsFitting p → IsTranslated p u → AreNested u
is-nested p u fit t =
    let h = functions-nested p p.types p.names fit.headers most_levels 1 fit.headers p.functions fit.tree.fits fit.shallow in
    let r = listed-within p most_levels 0 1 p.functions (functions_lowered p) h in
    subst (All (IsGraphWithin most_levels)) (all-once r.list u.graphs (r.listed ∙ sym t.graphs)) r.deep
