-- What a bound tree writes is such as a text can write.
use Rattle.std.proofs.Common.{◌≡◌, ℕ, suc, List, [], ◌∷◌, ◌++◌, map, All, Option, Some, None, length, sym, ap, subst, ◌∙◌, arith}
use Rattle.std.proofs.lemmas.List.{length-map}
use Rattle.std.proofs.lemmas.List.Elements.{All-nil, All-cons, All-head, All-tail}
use Rattle.sisal_tree.specs.declared.expr.Constant.{Constant}
use Rattle.sisal_tree.specs.declared.expr.Constant.TheVariants as constant
use Rattle.value_ops.specs.declared.operation.Operation.{Operation}
use Rattle.value_ops.specs.declared.operation.Operation.TheVariants as op
use Rattle.typed_tree.specs.declared.expr.TypedExpr.{TypedExpr}
use Rattle.typed_tree.specs.declared.expr.TypedKind.{TypedKind}
use Rattle.typed_tree.specs.declared.expr.TypedKind.TheViews.{roll-TypedKind}
use Rattle.typed_tree.specs.declared.expr.TypedKind.TheOpen.{TypedKind-F}
use Rattle.typed_tree.specs.declared.expr.TypedKind.TheVariants as typed
use Rattle.typed_tree.specs.declared.expr.TypedKind.TheFolds.{map-TypedKind, fold-TypedKind, fold-roll-TypedKind, fold-roll-TypedExpr}
use Rattle.typed_tree.specs.declared.program.Function.{Function}
use Rattle.typed_tree.specs.Typing.{with}
use Rattle.fitting_trees.specs.Fitting.{IsLiteral}
use Rattle.fitting_units.specs.Leaves.{Leaf, AreWritten, all_in, in_apply, in_kind, leaves, IsWrittenBody, IsWrittenProgram}
use Rattle.bound_trees.specs.Leaves.{IsLiteral as IsToldLiteral}
use Rattle.bound_trees.specs.Bound as is
use Rattle.bound_trees.specs.Bound.{IsBound, AreBound, AreDefined, AreArms, IsBoundBody, IsBoundIn, IsWrittenApply}

joined : (xs ys : List Leaf) → AreWritten xs → AreWritten ys → AreWritten (xs ++ ys)
joined [] ys h k = k
joined (x ∷ xs) ys h k = (h.0, joined xs ys h.1 k)

abbrev kind_leaves : TypedKind → List Leaf
kind_leaves = fold-TypedKind (List Leaf) (List Leaf) in_kind (λ e. e.kind)

level : (x : TypedKind-F TypedKind TypedExpr) (y : TypedKind) (l : ℕ) (ns : List ℕ) → y ≡ roll-TypedKind x → AreWritten (in_kind (map-TypedKind TypedKind TypedExpr (List Leaf) (List Leaf) kind_leaves leaves x)) → AreWritten (leaves (with l ns y))
level x y l ns e h =
    subst AreWritten
    (sym (fold-roll-TypedExpr (List Leaf) (List Leaf) in_kind (λ e. e.kind) (record { line = l; types = ns; kind = y })
    ∙ ap kind_leaves e ∙ fold-roll-TypedKind (List Leaf) (List Leaf) in_kind (λ e. e.kind) x)) h

abbrev exprs_leaves : List TypedExpr → List Leaf
exprs_leaves ts = all_in (map leaves ts)

abbrev defs_leaves : List (List TypedExpr) → List Leaf
defs_leaves us = all_in (map all_in (map (map leaves) us))

literal : (c : Constant) → IsToldLiteral c → IsLiteral c
literal (constant.Integer n) h = h.1
literal (constant.Letter c) h = h
literal (constant.Quoted s) h = h
literal constant.True h = tt
literal constant.False h = tt
literal constant.Nil h = tt

applied : (o : Operation) (n m : ℕ) (xs : List Leaf) → m ≡ n → IsWrittenApply o n → AreWritten xs → AreWritten (in_apply o m xs)
applied op.Record n m xs e h k = (omega (arith, e, h), k)
applied (op.Change places) n m xs e h k = (h, k)
applied op.Error n m xs e h k = k
applied (op.Unary f) n m xs e h k = k
applied (op.Binary f) n m xs e h k = k
applied (op.Swapped f) n m xs e h k = k
applied _ n m xs e h k = k

module _ (functions : ℕ) where
  mutual
    pub written : (n : ℕ) (t : TypedExpr) → IsBound functions n t → AreWritten (leaves t)
    written n _ (is.constant {l = l} {ns = ns} {c = c} h) = level (TypedKind-F.Constant c) (typed.Constant c) l ns (sym (typed.rolls-Constant c)) (literal c h, tt)
    written n _ (is.value {l = l} {level = x} {ns = ns} h) = level (TypedKind-F.Value x) (typed.Value x) l ns (sym (typed.rolls-Value x)) tt
    written n _ (is.group {l = l} {ns = ns} {ts = ts} p) = level (TypedKind-F.Group ts) (typed.Group ts) l ns (sym (typed.rolls-Group ts)) (all_written n ts p)
    written n _ (is.call {l = l} {f = f} {ns = ns} {ts = ts} h p) = level (TypedKind-F.Call f ts) (typed.Call f ts) l ns (sym (typed.rolls-Call f ts)) (all_written n ts p)
    written n _ (is.apply {l = l} {ns = ns} {op = o} {ts = ts} p w) =
        level (TypedKind-F.Apply o ts) (typed.Apply o ts) l ns (sym (typed.rolls-Apply o ts)) (applied o (length ts) (length (map leaves ts)) (exprs_leaves ts) (length-map ts leaves) w (all_written n ts p))
    written n _ (is.let_in {l = l} {ns = ns} {us = us} {ts = ts} p q) =
        level (TypedKind-F.Let us ts) (typed.Let us ts) l ns (sym (typed.rolls-Let us ts)) (joined (defs_leaves us) (exprs_leaves ts) (defs_written n us p) (all_written _ ts q))
    written n _ (is.if_else {l = l} {ns = ns} {ts = ts} {us = us} {vs = vs} p q r) =
        level (TypedKind-F.If ts us vs) (typed.If ts us vs) l ns (sym (typed.rolls-If ts us vs))
        (joined (exprs_leaves ts) (exprs_leaves us ++ exprs_leaves vs) (all_written n ts p) (joined (exprs_leaves us) (exprs_leaves vs) (all_written n us q) (all_written n vs r)))
    written n _ (is.tag_case {l = l} {ns = ns} {c = c} {ts = ts} {arms = arms} p q h w) =
        let same = length-map arms (map leaves) in
        level (TypedKind-F.Case c ts arms) (typed.Case c ts arms) l ns (sym (typed.rolls-Case c ts arms))
        (omega (arith, w, same), joined (exprs_leaves ts) (defs_leaves arms) (all_written n ts p) (arms_written n c.named arms q))
    written n _ (is.product {l = l} {ns = ns} {p = x} {bounds = bs} {us = us} {ts = ts} p q r some) =
        level (TypedKind-F.Product x bs us ts) (typed.Product x bs us ts) l ns (sym (typed.rolls-Product x bs us ts))
        (joined (exprs_leaves bs) (defs_leaves us ++ exprs_leaves ts) (all_written n bs p) (joined (defs_leaves us) (exprs_leaves ts) (defs_written _ us q) (all_written _ ts r)))
    written n _ (is.initial {l = l} {ns = ns} {t = x} {us = us} {vs = vs} {test = test} {ts = ts} p q r s even renews) =
        level (TypedKind-F.Initial x us test vs ts) (typed.Initial x us test vs ts) l ns (sym (typed.rolls-Initial x us test vs ts))
        (joined (defs_leaves us) (exprs_leaves test ++ (defs_leaves vs ++ exprs_leaves ts)) (defs_written n us p)
        (joined (exprs_leaves test) (defs_leaves vs ++ exprs_leaves ts) (all_written _ test q) (joined (defs_leaves vs) (exprs_leaves ts) (defs_written _ vs r) (all_written _ ts s))))

    pub all_written : (n : ℕ) (ts : List TypedExpr) → AreBound functions n ts → AreWritten (exprs_leaves ts)
    all_written n _ is.no_more = tt
    all_written n _ (is.more {t = t} {ts = ts} p q) = joined (leaves t) (exprs_leaves ts) (written n t p) (all_written n ts q)

    defs_written : (n : ℕ) (us : List (List TypedExpr)) → AreDefined functions n us → AreWritten (defs_leaves us)
    defs_written n _ is.no_def = tt
    defs_written n _ (is.a_def {ts = ts} {us = us} p q) = joined (exprs_leaves ts) (defs_leaves us) (all_written n ts p) (defs_written _ us q)

    arms_written : (n named : ℕ) (us : List (List TypedExpr)) → AreArms functions n named us → AreWritten (defs_leaves us)
    arms_written n _ _ is.no_arm = tt
    arms_written n _ _ (is.a_named_arm {named = named} {ts = ts} {arms = us} p q) = joined (exprs_leaves ts) (defs_leaves us) (all_written (suc n) ts p) (arms_written n named us q)
    arms_written n _ _ (is.an_arm {ts = ts} {arms = us} p q) = joined (exprs_leaves ts) (defs_leaves us) (all_written n ts p) (arms_written n 0 us q)

  body_written : (n : ℕ) (o : Option (List TypedExpr)) → IsBoundBody functions n o → IsWrittenBody o
  body_written n None h = tt
  body_written n (Some ts) h = all_written n ts h

  pub program_written : (fs : List Function) → All (IsBoundIn functions) fs → IsWrittenProgram fs
  program_written [] h = All-nil (λ (f : Function). IsWrittenBody f.body)
  program_written (f ∷ fs) h =
      All-cons (λ (f : Function). IsWrittenBody f.body) f fs (body_written (length f.parameters) f.body (All-head (IsBoundIn functions) f fs h)) (program_written fs (All-tail (IsBoundIn functions) f fs h))
