-- The sizes of an expression by its form.
use Rattle.std.proofs.Common.{◌≡◌, ℕ, ◌<◌, List, ap, ◌∙◌, arith}
use Rattle.std.specs.Prelude.{◌^◌, ◌-◌, min}
use Rattle.type_table.specs.declared.form.Form.{Form}
use Rattle.typed_tree.specs.declared.expr.TypedExpr.{TypedExpr}
use Rattle.typed_tree.specs.declared.expr.TypedKind.{TypedKind}
use Rattle.typed_tree.specs.declared.expr.TypedKind.TheViews.{roll-TypedKind}
use Rattle.typed_tree.specs.declared.expr.TypedKind.TheOpen.{TypedKind-F}
use Rattle.typed_tree.specs.declared.expr.TypedKind.TheFolds.{map-TypedKind, fold-roll-TypedKind, fold-roll-TypedExpr}
use Rattle.lowered_sizes.specs.Counting.{capped}
use Rattle.lowered_sizes.specs.Forms.{SizedKind, SizedPhrase, expr_sized, kind_sized, phrase_sized, kind_sizes, sizes}

pub expr-is : (forms : List Form) (e : TypedExpr) (n : ℕ) → sizes forms e n ≡ (kind_sizes forms e.kind).sizes e.types n
expr-is forms e n = ap (λ (p : SizedPhrase). p.sizes n) (fold-roll-TypedExpr SizedKind SizedPhrase (kind_sized forms) expr_sized (record { line = e.line; types = e.types; kind = e.kind }))

pub kind-is : (forms : List Form) (x : TypedKind-F TypedKind TypedExpr) (k : TypedKind) → k ≡ roll-TypedKind x → (ts : List ℕ) (n : ℕ)
    → (kind_sizes forms k).sizes ts n ≡ (kind_sized forms (map-TypedKind TypedKind TypedExpr SizedKind SizedPhrase (kind_sizes forms) (phrase_sized forms) x)).sizes ts n
kind-is forms x k e ts n = ap (λ z. (kind_sizes forms z).sizes ts n) e ∙ ap (λ (z : SizedKind). z.sizes ts n) (fold-roll-TypedKind SizedKind SizedPhrase (kind_sized forms) expr_sized x)

short : (m a k : ℕ) → a ≡ k → a < 2 ^ 64 → 2 ^ 64 < m → a ≡ min k m
short m a k e f g = omega (arith, e, f, g)

-- a length of 64 bits is kept
pub length-kept : (a k : ℕ) → a ≡ k → a < 2 ^ 64 → a ≡ capped k
length-kept a k e f = short (2 ^ 128 - 1) a k e f (omega arith)
