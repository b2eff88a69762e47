-- The forms over operands that name no type, from what is read of them.
use Rattle.std.proofs.Common.{◌≡◌, ℕ, sym, subst}
use Rattle.sisal_tree.specs.declared.expr.BinaryOperator.{BinaryOperator}
use Rattle.sisal_tree.specs.declared.expr.Expr.{Expr}
use Rattle.sisal_tree.specs.declared.expr.ExprKind.{ExprKind}
use Rattle.sisal_tree.specs.declared.expr.ExprKind.TheVariants as tree
use Rattle.sisal_tree.specs.declared.expr.PrefixOperator.{PrefixOperator}
use Rattle.sisal_tree.specs.declared.expr.Scalar.{Scalar}
use Rattle.type_rules.specs.declared.head.Head.TheVariants as head
use Rattle.type_rules.specs.Heads.{IsUnnamedHead, convert, is_error, is_tag, prefix, binary, select, update, field}

pub a_convert : (kind : ExprKind) (c : Scalar) (e : Expr) → kind ≡ tree.Convert c e → IsUnnamedHead kind (head.Convert c)
a_convert kind c e is = subst (λ k. IsUnnamedHead k (head.Convert c)) (sym is) (convert c e)

pub an_is_error : (kind : ExprKind) (e : Expr) → kind ≡ tree.IsError e → IsUnnamedHead kind head.IsError
an_is_error kind e is = subst (λ k. IsUnnamedHead k head.IsError) (sym is) (is_error e)

pub an_is_tag : (kind : ExprKind) (x : ℕ) (e : Expr) → kind ≡ tree.IsTag x e → IsUnnamedHead kind (head.IsTag x)
an_is_tag kind x e is = subst (λ k. IsUnnamedHead k (head.IsTag x)) (sym is) (is_tag x e)

pub a_prefix : (kind : ExprKind) (o : PrefixOperator) (e : Expr) → kind ≡ tree.Prefix o e → IsUnnamedHead kind (head.Prefix o)
a_prefix kind o e is = subst (λ k. IsUnnamedHead k (head.Prefix o)) (sym is) (prefix o e)

pub a_binary : (kind : ExprKind) (o : BinaryOperator) (e f : Expr) → kind ≡ tree.Binary o e f → IsUnnamedHead kind (head.Binary o)
a_binary kind o e f is = subst (λ k. IsUnnamedHead k (head.Binary o)) (sym is) (binary o e f)

pub a_select : (kind : ExprKind) (e i : Expr) → kind ≡ tree.Select e i → IsUnnamedHead kind head.Select
a_select kind e i is = subst (λ k. IsUnnamedHead k head.Select) (sym is) (select e i)

pub an_update : (kind : ExprKind) (e i f : Expr) → kind ≡ tree.Update e i f → IsUnnamedHead kind head.Update
an_update kind e i f is = subst (λ k. IsUnnamedHead k head.Update) (sym is) (update e i f)

pub a_field : (kind : ExprKind) (e : Expr) (x : ℕ) → kind ≡ tree.Field e x → IsUnnamedHead kind (head.Field x)
a_field kind e x is = subst (λ k. IsUnnamedHead k (head.Field x)) (sym is) (field e x)
