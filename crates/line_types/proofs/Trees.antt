-- Expressions, a case a form.
use Rattle.std.proofs.Common.{◌≡◌, ℕ, List, [], ◌∷◌, map, refl, sym, ap, subst, ◌∙◌}
use Rattle.type_table.specs.declared.form.Form.{Form}
use Rattle.typed_tree.specs.declared.expr.TypedExpr.{TypedExpr, roll-TypedExpr}
use Rattle.typed_tree.specs.declared.expr.TypedKind.{TypedKind}
use Rattle.typed_tree.specs.declared.expr.TypedKind.TheViews.{roll-TypedKind}
use Rattle.typed_tree.specs.declared.expr.TypedKind.TheOpen.{TypedKind-F, TypedExpr-F}
use Rattle.typed_tree.specs.declared.expr.TypedKind.TheFolds.{map-TypedKind, map-TypedExpr, fold-roll-TypedKind, fold-roll-TypedExpr, ind-TypedExpr}
use Rattle.typed_tree.specs.declared.program.Function.{Function}
use Rattle.lowering.specs.declared.graph.Action.TheVariants.{Call}
use Rattle.lowering.specs.Feeds.{carried}
use Rattle.lowering.specs.Graphs as graphs
use Rattle.lowering.specs.Operations.{Lowers, all_lowered}
use Rattle.lowering.specs.Choices.{case_lowered, applied}
use Rattle.lowering.specs.Loops as loops
use Rattle.lowering.specs.Loops.{types, product_lowered}
use Rattle.lowering.specs.Phrases as lowered
use Rattle.line_types.specs.Traces as told
use Rattle.line_types.specs.Traces.{Traces, andthen, a_node, all_traced, ones, operands, case_traced, product_traced}
use Rattle.lowering.specs.declared.feed.Carried.TheVariants.{Callee}
use Rattle.line_types.proofs.Wires.{carried-is}
use Rattle.line_types.proofs.Made.{To}
use Rattle.line_types.proofs.Made as made
use Rattle.line_types.proofs.Forms.{AllTo, DefsTo}
use Rattle.line_types.proofs.Forms as forms_are
use Rattle.line_types.proofs.Loops as loops_are
use Rattle.line_types.proofs.Turns.{PhrasesTo}
use Rattle.line_types.proofs.Turns as turns_are

module _ (forms : List Form) (names : List (List ℕ)) (fs : List Function) where
  -- a kind, by the types of its values, and an expression
  pub record KindIs (x : lowered.Kind) (y : told.Kind) : Type 0 where
    pub name : x.name ≡ y.name
    pub makes : (ts : List ℕ) → To forms names fs (x.lowers ts) (y.traces ts)

  abbrev IsKind : TypedKind → Type 0
  IsKind k = KindIs (lowered.phrase_kind forms k) (told.phrase_kind forms k)

  abbrev pub IsExpr : TypedExpr → Type 0
  IsExpr e = ((lowered.phrase forms e).name ≡ (told.phrase forms e).name) × To forms names fs (lowered.lowers forms e) (told.traces forms e)

  abbrev Proved : Type 0
  Proved = (e : TypedExpr) × IsExpr e

  abbrev KindProved : Type 0
  KindProved = (k : TypedKind) × IsKind k

  phrases : (es : List Proved) → PhrasesTo forms names fs (map (lowered.phrase forms) (map (λ e. e.0) es)) (map (told.phrase forms) (map (λ e. e.0) es))
  phrases [] = tt
  phrases (e ∷ es) = (e.1, phrases es)

  abbrev low : List Proved → List Lowers
  low es = lowered.each (map (lowered.phrase forms) (map (λ e. e.0) es))

  abbrev tol : List Proved → List Traces
  tol es = told.each (map (told.phrase forms) (map (λ e. e.0) es))

  abbrev low_lists : List (List Proved) → List (List Lowers)
  low_lists ds = map lowered.each (map (map (lowered.phrase forms)) (map (map (λ e. e.0)) ds))

  abbrev tol_lists : List (List Proved) → List (List Traces)
  tol_lists ds = map told.each (map (map (told.phrase forms)) (map (map (λ e. e.0)) ds))

  parts : (es : List Proved) → AllTo forms names fs (lowered.each (map (lowered.phrase forms) (map (λ e. e.0) es))) (told.each (map (told.phrase forms) (map (λ e. e.0) es)))
  parts [] = tt
  parts (e ∷ es) = (e.1.1, parts es)

  lists : (ds : List (List Proved)) → DefsTo forms names fs (map lowered.each (map (map (lowered.phrase forms)) (map (map (λ e. e.0)) ds))) (map told.each (map (map (told.phrase forms)) (map (map (λ e. e.0)) ds)))
  lists [] = tt
  lists (d ∷ ds) = (parts d, lists ds)

  abbrev bare : TypedKind-F KindProved Proved → TypedKind-F TypedKind TypedExpr
  bare y = map-TypedKind KindProved Proved TypedKind TypedExpr (λ x. x.0) (λ e. e.0) y

  abbrev to_lowered : TypedKind-F TypedKind TypedExpr → lowered.Kind
  to_lowered x = lowered.kind_lowered forms (map-TypedKind TypedKind TypedExpr lowered.Kind loops.Phrase (lowered.phrase_kind forms) (lowered.phrase forms) x)

  abbrev to_told : TypedKind-F TypedKind TypedExpr → told.Kind
  to_told x = told.kind_traced forms (map-TypedKind TypedKind TypedExpr told.Kind told.Phrase (told.phrase_kind forms) (told.phrase forms) x)

  call-to : (f : ℕ) (gs : List Lowers) (ts : List Traces) (ns : List ℕ) → AllTo forms names fs gs ts
      → To forms names fs (lowered.call_lowered f gs ns) (λ env. andthen (all_traced ts env) (λ cs. a_node (Callee f ∷ cs) (ones ns)))
  call-to f gs ts ns h env a =
      made.then-makes forms names fs (all_lowered gs env) (λ ws. graphs.a_node (Call f) ws 1 (ones ns)) (all_traced ts (types env)) (λ cs. a_node (Callee f ∷ cs) (ones ns)) (forms_are.all-to forms names fs gs ts h env a)
      (λ ws aw. made.makes-as forms names fs (graphs.a_node (Call f) ws 1 (ones ns)) (a_node (Callee f ∷ carried ws) (ones ns)) (a_node (Callee f ∷ types ws) (ones ns))
      (ap (λ l. a_node (Callee f ∷ l) (ones ns)) (carried-is ws aw)) (made.node-makes forms names fs (Call f) ws 1 (ones ns) tt))

  kind-is : (y : TypedKind-F KindProved Proved) → KindIs (to_lowered (bare y)) (to_told (bare y))
  kind-is (TypedKind-F.Constant c) = record { name = refl; makes = λ ts env a. forms_are.constant-makes forms names fs c ts }
  kind-is (TypedKind-F.Value x) = record { name = refl; makes = λ ts. forms_are.name-to forms names fs x }
  kind-is (TypedKind-F.Group es) = record { name = refl; makes = λ ts. forms_are.all-to forms names fs _ _ (parts es) }
  kind-is (TypedKind-F.Call f es) = record { name = refl; makes = λ ts. call-to f _ _ ts (parts es) }
  kind-is (TypedKind-F.Apply o es) = record {
    name = refl;
    makes = λ ts env a. made.then-makes forms names fs (all_lowered (low es) env) (λ ws. applied forms o ws ts) (all_traced (tol es) (types env)) (λ cs. a_node (operands o cs) (ones ts)) (forms_are.all-to forms names fs (low es) (tol es) (parts es) env a)
        (λ ws aw. forms_are.applied-makes forms names fs o ws ts aw);
  }
  kind-is (TypedKind-F.Let ds es) = record { name = refl; makes = λ ts. forms_are.body-to forms names fs _ _ _ _ (lists ds) (parts es) }
  kind-is (TypedKind-F.If xs ys zs) = record { name = refl; makes = λ ts. forms_are.if-to forms names fs _ _ _ _ _ _ ts (parts xs) (parts ys) (parts zs) }
  kind-is (TypedKind-F.Case c us arms) = record {
    name = refl;
    makes = λ ts env a. made.then-makes forms names fs (all_lowered (low us) env) (λ ws. case_lowered forms c (low_lists arms) ts ws env) (all_traced (tol us) (types env)) (λ cs. case_traced forms c (tol_lists arms) ts cs (types env)) (forms_are.all-to forms names fs (low us) (tol us) (parts us) env a)
        (λ ws aw. forms_are.case-makes forms names fs c (low_lists arms) (tol_lists arms) ts ws (lists arms) aw env a);
  }
  kind-is (TypedKind-F.Product p bs ds es) = record {
    name = refl;
    makes = λ ts env a. made.then-makes forms names fs (all_lowered (low bs) env) (λ ws. product_lowered forms p (low_lists ds) (low es) ts ws env) (all_traced (tol bs) (types env)) (λ cs. product_traced forms p (tol_lists ds) (tol es) ts cs (types env)) (forms_are.all-to forms names fs (low bs) (tol bs) (parts bs) env a)
        (λ ws aw. loops_are.product-makes forms names fs p (low_lists ds) (tol_lists ds) (low es) (tol es) ts ws (lists ds) (parts es) aw env a);
  }
  kind-is (TypedKind-F.Initial t us xs vs es) = record { name = refl; makes = λ ts. turns_are.initial-makes forms names fs t _ _ _ _ _ _ _ _ ts (lists us) (parts xs) (lists vs) (phrases es) }

  -- ---- the whole tree

  kind-step : (y : TypedKind-F KindProved Proved) → IsKind (roll-TypedKind (bare y))
  kind-step y =
      subst (λ k. KindIs k (told.phrase_kind forms (roll-TypedKind (bare y)))) (sym (fold-roll-TypedKind lowered.Kind loops.Phrase (lowered.kind_lowered forms) lowered.expr_lowered (bare y)))
      (subst (KindIs (to_lowered (bare y))) (sym (fold-roll-TypedKind told.Kind told.Phrase (told.kind_traced forms) told.expr_traced (bare y))) (kind-is y))

  expr-step : (y : TypedExpr-F KindProved Proved) → IsExpr (roll-TypedExpr (map-TypedExpr KindProved Proved TypedKind TypedExpr (λ x. x.0) (λ e. e.0) y))
  expr-step y =
      let x = map-TypedExpr KindProved Proved TypedKind TypedExpr (λ x. x.0) (λ e. e.0) y in
      let a = fold-roll-TypedExpr lowered.Kind loops.Phrase (lowered.kind_lowered forms) lowered.expr_lowered x in
      let b = fold-roll-TypedExpr told.Kind told.Phrase (told.kind_traced forms) told.expr_traced x in
      let k = y.kind.1 in (
        ap (λ (p : loops.Phrase). p.name) a ∙ (k.name ∙ sym (ap (λ (p : told.Phrase). p.name) b)),
        subst (λ g. To forms names fs g (told.traces forms (roll-TypedExpr x))) (sym (ap (λ (p : loops.Phrase). p.lowers) a))
            (subst (To forms names fs ((lowered.phrase_kind forms y.kind.0).lowers y.types)) (sym (ap (λ (p : told.Phrase). p.traces) b)) (k.makes y.types)),
      )

  pub expr-is : (e : TypedExpr) → IsExpr e
  expr-is = ind-TypedExpr IsKind IsExpr (λ x y is. subst (λ z. IsKind (roll-TypedKind z)) is (kind-step y)) (λ x y is. subst (λ z. IsExpr (roll-TypedExpr z)) is (expr-step y))
