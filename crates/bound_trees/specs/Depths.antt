-- How deep typed trees nest, as the text does (sisal_tree/specs/Depth): a constant or a name has depth 1, another expression 1
-- more than the greatest depth of its parts. A `for` with c groups of generators is c loops, one inside the other, and it counts
-- c in the text too.
use Rattle.std.specs.Prelude.{ℕ, ◌+◌, ◌≤◌, max, List, All, Option, Some, None}
use Rattle.sisal_tree.specs.Depth.{greatest, each_greatest}
use Rattle.typed_tree.specs.declared.expr.TypedExpr.{TypedExpr}
use Rattle.typed_tree.specs.declared.expr.TypedKind.TheOpen.{TypedKind-F}
use Rattle.typed_tree.specs.declared.expr.TypedKind.TheFolds.{fold-TypedExpr}

-- the greatest depth in lists of these depths
abbrev pub deepest : List (List ℕ) → ℕ
deepest us = greatest (each_greatest us)

abbrev pub in_kind : TypedKind-F ℕ ℕ → ℕ
in_kind (TypedKind-F.Constant c) = 1
in_kind (TypedKind-F.Value level) = 1
in_kind (TypedKind-F.Group ts) = greatest ts + 1
in_kind (TypedKind-F.Call f ts) = greatest ts + 1
in_kind (TypedKind-F.Apply op ts) = greatest ts + 1
in_kind (TypedKind-F.Let us ts) = max (deepest us) (greatest ts) + 1
in_kind (TypedKind-F.If ts us vs) = max (greatest ts) (max (greatest us) (greatest vs)) + 1
in_kind (TypedKind-F.Case c ts arms) = max (greatest ts) (deepest arms) + 1
in_kind (TypedKind-F.Product p bounds us ts) = max (greatest bounds) (max (deepest us) (greatest ts)) + 1
in_kind (TypedKind-F.Initial t us test vs ts) = max (deepest us) (max (max (greatest test) (deepest vs)) (greatest ts)) + 1

-- the depth of a typed expression
abbrev pub typed_depth : TypedExpr → ℕ
typed_depth = fold-TypedExpr ℕ ℕ in_kind (λ e. e.kind)

-- the results of a function, where they are given, nest at most so deep
abbrev pub AreWithin : ℕ → Option (List TypedExpr) → Type 0
AreWithin n None = Unit {0}
AreWithin n (Some ts) = All (λ t. typed_depth t ≤ n) ts
