-- What a bound expression consists of.
use Rattle.std.proofs.Common.{◌≡◌, ℕ, List, sym, subst, rules}
use Rattle.std.proofs.lemmas.List.Elements.{All-nil, All-cons}
use Rattle.sisal_tree.specs.declared.expr.Constant.{Constant}
use Rattle.value_ops.specs.declared.operation.Operation.{Operation}
use Rattle.typed_tree.specs.declared.expr.TypedExpr.{TypedExpr}
use Rattle.typed_tree.specs.declared.expr.TypedKind.{TypedKind}
use Rattle.typed_tree.specs.declared.expr.TypedKind.TheVariants as node
use Rattle.typed_tree.specs.declared.expr.TypedKind.TheOpen.{TypedKind-F}
use Rattle.typed_tree.specs.declared.expr.TypedKind.TheViews.{out-TypedKind}
use Rattle.typed_tree.specs.declared.expr.TypedKind.TheViews as kinds
use Rattle.typed_tree.specs.declared.expr.Case.{Case}
use Rattle.typed_tree.specs.declared.expr.Product.{Product}
use Rattle.typed_tree.specs.declared.expr.Turns.{Turns}
use Rattle.bound_trees.specs.Bound as is
use Rattle.bound_trees.specs.Bound.{IsBound, AreBound, AreDefined, AreArms}
use Rattle.bound_trees.specs.Laws.{HasBoundParts, PartsLaw, EachLaw}

out_constant : (c : Constant) → out-TypedKind (node.Constant c) ≡ TypedKind-F.Constant c
out_constant c = search (rules, kinds.the_lemmas)

out_value : (level : ℕ) → out-TypedKind (node.Value level) ≡ TypedKind-F.Value level
out_value level = search (rules, kinds.the_lemmas)

out_group : (ts : List TypedExpr) → out-TypedKind (node.Group ts) ≡ TypedKind-F.Group ts
out_group ts = search (rules, kinds.the_lemmas)

out_call : (f : ℕ) (ts : List TypedExpr) → out-TypedKind (node.Call f ts) ≡ TypedKind-F.Call f ts
out_call f ts = search (rules, kinds.the_lemmas)

out_apply : (op : Operation) (ts : List TypedExpr) → out-TypedKind (node.Apply op ts) ≡ TypedKind-F.Apply op ts
out_apply op ts = search (rules, kinds.the_lemmas)

out_let : (us : List (List TypedExpr)) (ts : List TypedExpr) → out-TypedKind (node.Let us ts) ≡ TypedKind-F.Let us ts
out_let us ts = search (rules, kinds.the_lemmas)

out_if : (ts us vs : List TypedExpr) → out-TypedKind (node.If ts us vs) ≡ TypedKind-F.If ts us vs
out_if ts us vs = search (rules, kinds.the_lemmas)

out_case : (c : Case) (ts : List TypedExpr) (arms : List (List TypedExpr)) → out-TypedKind (node.Case c ts arms) ≡ TypedKind-F.Case c ts arms
out_case c ts arms = search (rules, kinds.the_lemmas)

out_product : (p : Product) (bounds : List TypedExpr) (us : List (List TypedExpr)) (ts : List TypedExpr) → out-TypedKind (node.Product p bounds us ts) ≡ TypedKind-F.Product p bounds us ts
out_product p bounds us ts = search (rules, kinds.the_lemmas)

out_initial : (t : Turns) (us : List (List TypedExpr)) (test : List TypedExpr) (vs : List (List TypedExpr)) (ts : List TypedExpr)
    → out-TypedKind (node.Initial t us test vs ts) ≡ TypedKind-F.Initial t us test vs ts
out_initial t us test vs ts = search (rules, kinds.the_lemmas)

turned : (functions n : ℕ) (x : TypedKind) (y : TypedKind-F TypedKind TypedExpr) → out-TypedKind x ≡ y → HasBoundParts functions n y → HasBoundParts functions n (out-TypedKind x)
turned functions n x y e p = subst (λ z. HasBoundParts functions n z) (sym e) p

pub bound_parts : PartsLaw
bound_parts functions n _ (is.constant {c = c} h) = turned functions n (node.Constant c) (TypedKind-F.Constant c) (out_constant c) h
bound_parts functions n _ (is.value {level = level} h) = turned functions n (node.Value level) (TypedKind-F.Value level) (out_value level) h
bound_parts functions n _ (is.group {ts = ts} p) = turned functions n (node.Group ts) (TypedKind-F.Group ts) (out_group ts) p
bound_parts functions n _ (is.call {f = f} {ts = ts} h p) = turned functions n (node.Call f ts) (TypedKind-F.Call f ts) (out_call f ts) (h, p)
bound_parts functions n _ (is.apply {op = op} {ts = ts} p w) = turned functions n (node.Apply op ts) (TypedKind-F.Apply op ts) (out_apply op ts) (p, w)
bound_parts functions n _ (is.let_in {us = us} {ts = ts} p q) = turned functions n (node.Let us ts) (TypedKind-F.Let us ts) (out_let us ts) (p, q)
bound_parts functions n _ (is.if_else {ts = ts} {us = us} {vs = vs} p q r) = turned functions n (node.If ts us vs) (TypedKind-F.If ts us vs) (out_if ts us vs) (p, q, r)
bound_parts functions n _ (is.tag_case {c = c} {ts = ts} {arms = arms} p q h w) = turned functions n (node.Case c ts arms) (TypedKind-F.Case c ts arms) (out_case c ts arms) (p, q, h, w)
bound_parts functions n _ (is.product {p = p} {bounds = bounds} {us = us} {ts = ts} a b c d) =
    turned functions n (node.Product p bounds us ts) (TypedKind-F.Product p bounds us ts) (out_product p bounds us ts) (a, b, c, d)
bound_parts functions n _ (is.initial {t = t} {us = us} {vs = vs} {test = test} {ts = ts} a b c d e f) =
    turned functions n (node.Initial t us test vs ts) (TypedKind-F.Initial t us test vs ts) (out_initial t us test vs ts) (a, b, c, d, e, f)

pub each_bound : EachLaw
each_bound functions n _ is.no_more = All-nil (IsBound functions n)
each_bound functions n _ (is.more {t = t} {ts = ts} p ps) = All-cons (IsBound functions n) t ts p (each_bound functions n ts ps)
