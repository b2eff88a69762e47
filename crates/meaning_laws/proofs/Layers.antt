-- What an expression gives is what its kind gives, and one step; a kind, from the kinds of its parts.
use Rattle.std.proofs.Common.{◌≡◌, ℕ, List, length, ap}
use Rattle.flow_value.specs.declared.value.Val.{Val}
use Rattle.typed_tree.specs.declared.expr.TypedExpr.{TypedExpr}
use Rattle.typed_tree.specs.declared.expr.TypedKind.{TypedKind}
use Rattle.typed_tree.specs.declared.expr.TypedKind.TheViews.{roll-TypedKind}
use Rattle.typed_tree.specs.declared.expr.TypedKind.TheOpen.{TypedKind-F}
use Rattle.typed_tree.specs.declared.expr.TypedKind.TheFolds.{map-TypedKind, fold-roll-TypedKind, fold-roll-TypedExpr}
use Rattle.meaning.specs.Timed.{plus}
use Rattle.meaning.specs.Meaning.{Gives}
use Rattle.meaning.specs.Plain.{Depth, Deep, kind_at, expr_at, plain, plain_kind}

pub plain_is : (e : TypedExpr) (d : Depth) (env : List Val) → plain e d env ≡ plus 1 (plain_kind e.kind d (length e.types) env)
plain_is e d env = ap (λ g. g d env) (fold-roll-TypedExpr (Depth → ℕ → Gives) Deep kind_at expr_at (record { line = e.line; types = e.types; kind = e.kind }))

pub plain_layer_is : (x : TypedKind-F TypedKind TypedExpr) (d : Depth) (k : ℕ) (env : List Val)
    → plain_kind (roll-TypedKind x) d k env ≡ kind_at (map-TypedKind TypedKind TypedExpr (Depth → ℕ → Gives) Deep plain_kind plain x) d k env
plain_layer_is x d k env = ap (λ g. g d k env) (fold-roll-TypedKind (Depth → ℕ → Gives) Deep kind_at expr_at x)
