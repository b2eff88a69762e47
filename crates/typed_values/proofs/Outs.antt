-- The form of a typed expression.
use Rattle.std.proofs.Common.{◌≡◌, ℕ, List, rules}
use Rattle.sisal_tree.specs.declared.expr.Constant.{Constant}
use Rattle.value_ops.specs.declared.operation.Operation.{Operation}
use Rattle.typed_tree.specs.declared.expr.TypedExpr.{TypedExpr}
use Rattle.typed_tree.specs.declared.expr.TypedKind.TheVariants as typed
use Rattle.typed_tree.specs.declared.expr.TypedKind.TheOpen.{TypedKind-F}
use Rattle.typed_tree.specs.declared.expr.TypedKind.TheViews.{out-TypedKind}
use Rattle.typed_tree.specs.declared.expr.TypedKind.TheViews as kinds
use Rattle.typed_tree.specs.declared.expr.Case.{Case}
use Rattle.typed_tree.specs.declared.expr.Product.{Product}
use Rattle.typed_tree.specs.declared.expr.Turns.{Turns}

pub out_constant : (c : Constant) → out-TypedKind (typed.Constant c) ≡ TypedKind-F.Constant c
out_constant c = search (rules, kinds.the_lemmas)

pub out_value : (level : ℕ) → out-TypedKind (typed.Value level) ≡ TypedKind-F.Value level
out_value level = search (rules, kinds.the_lemmas)

pub out_group : (ts : List TypedExpr) → out-TypedKind (typed.Group ts) ≡ TypedKind-F.Group ts
out_group ts = search (rules, kinds.the_lemmas)

pub out_call : (f : ℕ) (ts : List TypedExpr) → out-TypedKind (typed.Call f ts) ≡ TypedKind-F.Call f ts
out_call f ts = search (rules, kinds.the_lemmas)

pub out_apply : (o : Operation) (ts : List TypedExpr) → out-TypedKind (typed.Apply o ts) ≡ TypedKind-F.Apply o ts
out_apply o ts = search (rules, kinds.the_lemmas)

pub out_let : (us : List (List TypedExpr)) (ts : List TypedExpr) → out-TypedKind (typed.Let us ts) ≡ TypedKind-F.Let us ts
out_let us ts = search (rules, kinds.the_lemmas)

pub out_if : (ts us vs : List TypedExpr) → out-TypedKind (typed.If ts us vs) ≡ TypedKind-F.If ts us vs
out_if ts us vs = search (rules, kinds.the_lemmas)

pub out_case : (c : Case) (ts : List TypedExpr) (arms : List (List TypedExpr)) → out-TypedKind (typed.Case c ts arms) ≡ TypedKind-F.Case c ts arms
out_case c ts arms = search (rules, kinds.the_lemmas)

pub out_product : (q : Product) (bs : List TypedExpr) (us : List (List TypedExpr)) (ts : List TypedExpr) → out-TypedKind (typed.Product q bs us ts) ≡ TypedKind-F.Product q bs us ts
out_product q bs us ts = search (rules, kinds.the_lemmas)

pub out_initial : (t : Turns) (us : List (List TypedExpr)) (tests : List TypedExpr) (vs : List (List TypedExpr)) (ts : List TypedExpr)
    → out-TypedKind (typed.Initial t us tests vs ts) ≡ TypedKind-F.Initial t us tests vs ts
out_initial t us tests vs ts = search (rules, kinds.the_lemmas)
