-- What each expression becomes keeps the order, and so do the graphs of a program.
use Rattle.std.proofs.Common.{ℕ, suc, ◌+◌, List, [], ◌∷◌, map, Option, Some, None, sym, ap, subst, arith}
use Rattle.if1_graph.specs.declared.op.Simple.TheVariants as simple
use Rattle.type_table.specs.declared.form.Form.{Form}
use Rattle.typed_tree.specs.declared.expr.TypedExpr.{TypedExpr, roll-TypedExpr}
use Rattle.typed_tree.specs.declared.expr.TypedKind.{TypedKind}
use Rattle.typed_tree.specs.declared.expr.TypedKind.TheViews.{roll-TypedKind}
use Rattle.typed_tree.specs.declared.expr.TypedKind.TheOpen.{TypedKind-F, TypedExpr-F}
use Rattle.typed_tree.specs.declared.expr.TypedKind.TheFolds.{map-TypedKind, map-TypedExpr, fold-roll-TypedKind, fold-roll-TypedExpr, ind-TypedExpr}
use Rattle.typed_tree.specs.declared.program.Function.{Function}
use Rattle.typed_tree.specs.declared.program.Program.{Program}
use Rattle.lowering.specs.declared.feed.Carried.TheVariants.{One}
use Rattle.lowering.specs.Graphs.{size, new_graph, new_graphs}
use Rattle.lowering.specs.Operations.{Lowers, all_lowered}
use Rattle.lowering.specs.Choices.{case_lowered, applied}
use Rattle.lowering.specs.Loops.{Phrase, own_inputs, product_lowered}
use Rattle.lowering.specs.Phrases.{Kind, each, kind_lowered, expr_lowered, phrase, phrase_kind, lowers}
use Rattle.lowering.specs.Programs.{stub, bodies, function_lowered, functions_lowered, graphs}
use Rattle.lowered_ready.proofs.Before.{AllOrdered, AreOrdered, graphs-ordered}
use Rattle.lowered_ready.proofs.Before as before
use Rattle.lowered_ready.proofs.OrderForms.{OrdersTo, EachOrder, ListsOrder}
use Rattle.lowered_ready.proofs.OrderForms as forms_are
use Rattle.lowered_ready.proofs.Loops as loops_are

module _ (forms : List Form) where
  abbrev KindOrders : Kind → Type 0
  KindOrders k = (ts : List ℕ) → OrdersTo (k.lowers ts)

  abbrev IsKind : TypedKind → Type 0
  IsKind k = KindOrders (phrase_kind forms k)

  abbrev IsExpr : TypedExpr → Type 0
  IsExpr e = OrdersTo (lowers forms e)

  abbrev Proved : Type 0
  Proved = (e : TypedExpr) × IsExpr e

  abbrev KindProved : Type 0
  KindProved = (k : TypedKind) × IsKind k

  abbrev several : List Proved → List Lowers
  several es = each (map (phrase forms) (map (λ e. e.0) es))

  abbrev several_lists : List (List Proved) → List (List Lowers)
  several_lists ds = map each (map (map (phrase forms)) (map (map (λ e. e.0)) ds))

  parts : (es : List Proved) → EachOrder (several es)
  parts [] = tt
  parts (e ∷ es) = (e.1, parts es)

  lists : (ds : List (List Proved)) → ListsOrder (several_lists ds)
  lists [] = tt
  lists (d ∷ ds) = (parts d, lists ds)

  abbrev bare : TypedKind-F KindProved Proved → TypedKind-F TypedKind TypedExpr
  bare y = map-TypedKind KindProved Proved TypedKind TypedExpr (λ x. x.0) (λ e. e.0) y

  abbrev to_lowered : TypedKind-F TypedKind TypedExpr → Kind
  to_lowered x = kind_lowered forms (map-TypedKind TypedKind TypedExpr Kind Phrase (phrase_kind forms) (phrase forms) x)

  kind-orders : (y : TypedKind-F KindProved Proved) → KindOrders (to_lowered (bare y))
  kind-orders (TypedKind-F.Constant c) ts = forms_are.constant-orders c ts
  kind-orders (TypedKind-F.Value x) ts = forms_are.name-orders x
  kind-orders (TypedKind-F.Group es) ts = forms_are.all-order (several es) (parts es)
  kind-orders (TypedKind-F.Call f es) ts = forms_are.call-orders f (several es) ts (parts es)
  kind-orders (TypedKind-F.Apply o es) ts = λ ns k env a.
      before.then-orders ns k (all_lowered (several es) env) (λ ws. applied forms o ws ts) (forms_are.all-order (several es) (parts es) ns k env a) (λ j l ws w. forms_are.applied-orders forms ns j o ws ts w)
  kind-orders (TypedKind-F.Let ds es) ts = forms_are.body-order (several_lists ds) (several es) (lists ds) (parts es)
  kind-orders (TypedKind-F.If xs ys zs) ts = forms_are.if-orders (several xs) (several ys) (several zs) ts (parts xs) (parts ys) (parts zs)
  kind-orders (TypedKind-F.Case c us arms) ts = λ ns k env a.
      before.then-orders ns k (all_lowered (several us) env) (λ ws. case_lowered forms c (several_lists arms) ts ws env) (forms_are.all-order (several us) (parts us) ns k env a)
      (λ j l ws w. forms_are.case-orders forms c (several_lists arms) ts (lists arms) ns j ws env w (before.later ns k j l env a))
  kind-orders (TypedKind-F.Product p bs ds es) ts = λ ns k env a.
      before.then-orders ns k (all_lowered (several bs) env) (λ ws. product_lowered forms p (several_lists ds) (several es) ts ws env) (forms_are.all-order (several bs) (parts bs) ns k env a)
      (λ j l ws w. loops_are.product-orders forms p (several_lists ds) (several es) ts (lists ds) (parts es) ns j ws env w (before.later ns k j l env a))
  kind-orders (TypedKind-F.Initial t us xs vs es) ts =
      loops_are.initial-orders t (several_lists us) (several xs) (several_lists vs) (map (phrase forms) (map (λ e. e.0) es)) ts (lists us) (parts xs) (lists vs) (parts es)

  -- ---- the whole tree

  kind-step : (y : TypedKind-F KindProved Proved) → IsKind (roll-TypedKind (bare y))
  kind-step y = subst KindOrders (sym (fold-roll-TypedKind Kind Phrase (kind_lowered forms) expr_lowered (bare y))) (kind-orders y)

  expr-step : (y : TypedExpr-F KindProved Proved) → IsExpr (roll-TypedExpr (map-TypedExpr KindProved Proved TypedKind TypedExpr (λ x. x.0) (λ e. e.0) y))
  expr-step y =
      let x = map-TypedExpr KindProved Proved TypedKind TypedExpr (λ x. x.0) (λ e. e.0) y in
      subst OrdersTo (sym (ap (λ (p : Phrase). p.lowers) (fold-roll-TypedExpr Kind Phrase (kind_lowered forms) expr_lowered x))) (y.kind.1 y.types)

  expr-orders : (e : TypedExpr) → IsExpr e
  expr-orders = ind-TypedExpr IsKind IsExpr (λ x y is. subst (λ z. IsKind (roll-TypedKind z)) is (kind-step y)) (λ x y is. subst (λ z. IsExpr (roll-TypedExpr z)) is (expr-step y))

  -- ---- functions

  stubs-order : (ts : List ℕ) → EachOrder (map stub ts)
  stubs-order [] = tt
  stubs-order (t ∷ ts) = (λ ns k env a. forms_are.row-orders ns k simple.Error [] (t ∷ []) tt, stubs-order ts)

  exprs-order : (es : List TypedExpr) → EachOrder (map (lowers forms) es)
  exprs-order [] = tt
  exprs-order (e ∷ es) = (expr-orders e, exprs-order es)

  bodies-order : (b : Option (List TypedExpr)) (rs : List ℕ) → EachOrder (bodies forms b rs)
  bodies-order None rs = stubs-order rs
  bodies-order (Some es) rs = exprs-order es

  functions-ordered : (q : ℕ) (fs : List Function) → AllOrdered [] (new_graphs q (map (function_lowered forms) fs))
  functions-ordered q [] = tt
  functions-ordered q (f ∷ fs) = (
    forms_are.all-order (bodies forms f.body f.results) (bodies-order f.body f.results) [] 0 (own_inputs 1 (map One f.params)) (before.ports-before [] 0 0 1 (map One f.params) (omega arith)) 0 (suc q) (omega arith),
    functions-ordered (q + size (new_graph (function_lowered forms f) q)) fs,
  )

pub program-ordered : (p : Program) → AreOrdered (graphs p)
program-ordered p = graphs-ordered [] [] 0 0 (functions_lowered p) (functions-ordered p.types 1 p.functions)
