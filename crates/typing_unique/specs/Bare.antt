-- Typed trees with other numbers of types, and without any: what two typed trees of one unit have in common, whatever their tables of
-- types.
use Rattle.std.specs.Prelude.{◌≡◌, ℕ, List, [], map, Option, Some, None}
use Rattle.flow_value.specs.declared.ty.Ty.{Ty}
use Rattle.type_table.specs.declared.form.Form.{Form}
use Rattle.sisal_tree.specs.declared.unit.Unit as tree
use Rattle.typed_tree.specs.declared.expr.TypedExpr.{TypedExpr}
use Rattle.typed_tree.specs.declared.expr.TypedKind.{TypedKind}
use Rattle.typed_tree.specs.declared.expr.TypedKind.TheViews.{roll-TypedKind}
use Rattle.typed_tree.specs.declared.expr.TypedKind.TheOpen.{TypedExpr-F}
use Rattle.typed_tree.specs.declared.expr.TypedKind.TheFolds.{fold-TypedExpr, fold-TypedKind}
use Rattle.typed_tree.specs.declared.program.Function.{Function}
use Rattle.typed_tree.specs.declared.program.Program.{Program}
use Rattle.typed_tree.specs.Types.{IsNumber}
use Rattle.typed_tree.specs.Units.{IsTyped}
use Rattle.typing_unique.specs.UnitLaws.{AreSpelledOnce}

-- as many numbers, each 0
abbrev pub blank : List ℕ → List ℕ
blank ns = map (λ n. 0) ns

abbrev pub bare_expr : TypedExpr-F TypedKind TypedExpr → TypedExpr
bare_expr e = record { line = e.line; types = blank e.types; kind = e.kind }

-- an expression in which each number of a type is 0
abbrev pub bare : TypedExpr → TypedExpr
bare = fold-TypedExpr TypedKind TypedExpr roll-TypedKind bare_expr

abbrev pub bare_kind : TypedKind → TypedKind
bare_kind = fold-TypedKind TypedKind TypedExpr roll-TypedKind bare_expr

abbrev pub bares : List TypedExpr → List TypedExpr
bares es = map bare es

abbrev pub bare_lists : List (List TypedExpr) → List (List TypedExpr)
bare_lists ds = map bares ds

abbrev pub bare_body : Option (List TypedExpr) → Option (List TypedExpr)
bare_body None = None
bare_body (Some es) = Some (bares es)

abbrev pub bare_function : Function → Function
bare_function f = record {
  line = f.line;
  name = f.name;
  parameters = f.parameters;
  params = blank f.params;
  results = blank f.results;
  body = bare_body f.body;
}

-- a program without its table, and without the numbers of types
abbrev pub bare_program : Program → Program
bare_program p = record { names = p.names; types = []; functions = map bare_function p.functions; defines = p.defines }

-- ---- other numbers in place of those of types

abbrev pub renumbered_expr : (ℕ → ℕ) → TypedExpr-F TypedKind TypedExpr → TypedExpr
renumbered_expr to e = record { line = e.line; types = map to e.types; kind = e.kind }

abbrev pub renumbered : (ℕ → ℕ) → TypedExpr → TypedExpr
renumbered to = fold-TypedExpr TypedKind TypedExpr roll-TypedKind (renumbered_expr to)

abbrev pub renumbered_kind : (ℕ → ℕ) → TypedKind → TypedKind
renumbered_kind to = fold-TypedKind TypedKind TypedExpr roll-TypedKind (renumbered_expr to)

abbrev pub renumbered_all : (ℕ → ℕ) → List TypedExpr → List TypedExpr
renumbered_all to es = map (renumbered to) es

abbrev pub renumbered_lists : (ℕ → ℕ) → List (List TypedExpr) → List (List TypedExpr)
renumbered_lists to ds = map (renumbered_all to) ds

abbrev pub renumbered_body : (ℕ → ℕ) → Option (List TypedExpr) → Option (List TypedExpr)
renumbered_body to None = None
renumbered_body to (Some es) = Some (renumbered_all to es)

abbrev pub renumbered_function : (ℕ → ℕ) → Function → Function
renumbered_function to f = record {
  line = f.line;
  name = f.name;
  parameters = f.parameters;
  params = map to f.params;
  results = map to f.results;
  body = renumbered_body to f.body;
}

-- the program at another table
abbrev pub renumbered_program : (ℕ → ℕ) → List Form → Program → Program
renumbered_program to forms p = record { names = p.names; types = forms; functions = map (renumbered_function to) p.functions; defines = p.defines }

-- ---- the laws

-- two typed trees of one unit are one tree but for the numbers of types
abbrev pub OneShapeLaw : Type 0
OneShapeLaw = (u : tree.Unit) (p q : Program) → AreSpelledOnce u.tokens.names → IsTyped u p → IsTyped u q → bare_program p ≡ bare_program q

-- where numbers of one type are given one number, they are one tree
abbrev pub OneRenumberedLaw : Type 0
OneRenumberedLaw = (u : tree.Unit) (p q : Program) (to other : ℕ → ℕ) (forms : List Form) → AreSpelledOnce u.tokens.names → IsTyped u p → IsTyped u q
    → ((n m : ℕ) (a : Ty) → IsNumber p.types u.tokens.names n a → IsNumber q.types u.tokens.names m a → to n ≡ other m)
    → renumbered_program to forms p ≡ renumbered_program other forms q
