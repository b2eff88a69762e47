-- Expressions by their sizes, and which form an expression has.
use Rattle.std.specs.Prelude.{◌≡◌, List, map}
use Rattle.type_table.specs.declared.form.Form.{Form}
use Rattle.typed_tree.specs.declared.expr.TypedExpr.{TypedExpr}
use Rattle.typed_tree.specs.declared.expr.TypedKind.{TypedKind}
use Rattle.typed_tree.specs.declared.expr.TypedKind.TheVariants as typed
use Rattle.typed_tree.specs.declared.expr.Product.{Product}
use Rattle.typed_tree.specs.declared.expr.Turns.{Turns}
use Rattle.lowered_sizes.specs.Counting.{Sizing}
use Rattle.lowered_sizes.specs.Forms.{each, phrase_sized}

abbrev pub phrases : List Form → List TypedExpr → List Sizing
phrases forms es = each (map (phrase_sized forms) es)

abbrev pub lists : List Form → List (List TypedExpr) → List (List Sizing)
lists forms us = map each (map (map (phrase_sized forms)) us)

-- a loop over generators
abbrev pub IsProduct : TypedKind → Type 0
IsProduct k = (p : Product) × (bs : List TypedExpr) × (ds : List (List TypedExpr)) × (es : List TypedExpr) × (k ≡ typed.Product p bs ds es)

-- a loop of turns
abbrev pub IsInitial : TypedKind → Type 0
IsInitial k =
    (t : Turns) × (fs : List (List TypedExpr)) × (test : List TypedExpr) × (ds : List (List TypedExpr)) × (es : List TypedExpr)
    × (k ≡ typed.Initial t fs test ds es)
