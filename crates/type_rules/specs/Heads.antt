-- The forms over operands, and what is made of those that name no type.
use Rattle.std.specs.Prelude.{ℕ}
use Rattle.sisal_tree.specs.declared.expr.Arm.{Arm}
use Rattle.sisal_tree.specs.declared.expr.BinaryOperator.{BinaryOperator}
use Rattle.sisal_tree.specs.declared.expr.Clause.{Clause}
use Rattle.sisal_tree.specs.declared.expr.Def.{Def}
use Rattle.sisal_tree.specs.declared.expr.Elements.{Elements}
use Rattle.sisal_tree.specs.declared.expr.Expr.{Expr}
use Rattle.sisal_tree.specs.declared.expr.ExprKind.{ExprKind}
use Rattle.sisal_tree.specs.declared.expr.ExprKind.TheOpen.{ExprKind-F}
use Rattle.sisal_tree.specs.declared.expr.ExprKind.TheVariants as tree
use Rattle.sisal_tree.specs.declared.expr.FieldValue.{FieldValue}
use Rattle.sisal_tree.specs.declared.expr.Generator.{Generator}
use Rattle.sisal_tree.specs.declared.expr.Loop.{Loop}
use Rattle.sisal_tree.specs.declared.expr.Mask.{Mask}
use Rattle.sisal_tree.specs.declared.expr.PrefixOperator.{PrefixOperator}
use Rattle.sisal_tree.specs.declared.expr.Scalar.{Scalar}
use Rattle.sisal_tree.specs.declared.expr.TagCase.{TagCase}
use Rattle.sisal_tree.specs.declared.expr.Turn.{Turn}
use Rattle.type_rules.specs.declared.head.Head.{Head}
use Rattle.type_rules.specs.declared.head.Head.TheVariants as head

-- a form over operands that names no type: a conversion, a test, an operator, or what takes or changes a part
abbrev pub NamesNoType : ExprKind-F ExprKind Loop Arm Clause Def Elements Expr FieldValue Generator Mask TagCase Turn → Type 0
NamesNoType (ExprKind-F.Convert c e) = Unit {0}
NamesNoType (ExprKind-F.IsError e) = Unit {0}
NamesNoType (ExprKind-F.IsTag x e) = Unit {0}
NamesNoType (ExprKind-F.Prefix o e) = Unit {0}
NamesNoType (ExprKind-F.Binary o e f) = Unit {0}
NamesNoType (ExprKind-F.Select e i) = Unit {0}
NamesNoType (ExprKind-F.Update e i f) = Unit {0}
NamesNoType (ExprKind-F.Field e x) = Unit {0}
NamesNoType _ = ⊥

-- a form over operands
abbrev pub IsForm : ExprKind-F ExprKind Loop Arm Clause Def Elements Expr FieldValue Generator Mask TagCase Turn → Type 0
IsForm (ExprKind-F.ErrorOf w) = Unit {0}
IsForm (ExprKind-F.Replace e vs) = Unit {0}
IsForm (ExprKind-F.Array x els) = Unit {0}
IsForm (ExprKind-F.Stream x es) = Unit {0}
IsForm (ExprKind-F.Record x vs) = Unit {0}
IsForm (ExprKind-F.Union x tag e) = Unit {0}
IsForm k = NamesNoType k

-- what a form that names no type is, by the names in it
pub data IsUnnamedHead : ExprKind → Head → Type 0 where
  convert : (c : Scalar) (e : Expr) → IsUnnamedHead (tree.Convert c e) (head.Convert c)
  is_error : (e : Expr) → IsUnnamedHead (tree.IsError e) head.IsError
  is_tag : (x : ℕ) (e : Expr) → IsUnnamedHead (tree.IsTag x e) (head.IsTag x)
  prefix : (o : PrefixOperator) (e : Expr) → IsUnnamedHead (tree.Prefix o e) (head.Prefix o)
  binary : (o : BinaryOperator) (e f : Expr) → IsUnnamedHead (tree.Binary o e f) (head.Binary o)
  select : (e i : Expr) → IsUnnamedHead (tree.Select e i) head.Select
  update : (e i f : Expr) → IsUnnamedHead (tree.Update e i f) head.Update
  field : (e : Expr) (x : ℕ) → IsUnnamedHead (tree.Field e x) (head.Field x)
