-- An example of two names that are spelled alike. A union's tags have names of their own, and a tag is found by its spelling; so where
-- two names have one spelling, a `tagcase` may be typed by one tag and choose by the other.
use Rattle.std.specs.Prelude.{◌≡◌, ℕ, pos, true, List, [], ◌∷◌, Some, codes}
use Rattle.flow_value.specs.declared.value.Val.{Val}
use Rattle.flow_value.specs.declared.value.Val.TheVariants as val
use Rattle.flow_value.specs.declared.ty.Ty.{Ty}
use Rattle.flow_value.specs.declared.ty.Ty.TheVariants as ty
use Rattle.type_table.specs.declared.form.Form.{Form}
use Rattle.type_table.specs.declared.form.Form.TheVariants as form
use Rattle.sisal_tree.specs.declared.unit.Named.{Named}
use Rattle.sisal_tree.specs.declared.unit.Written.{Written}
use Rattle.sisal_tree.specs.declared.expr.Expr.{Expr}
use Rattle.sisal_tree.specs.declared.expr.ExprKind.TheVariants as tree
use Rattle.sisal_tree.specs.declared.expr.Constant.TheVariants as constant
use Rattle.sisal_tree.specs.declared.expr.TagCase.{roll-TagCase}
use Rattle.sisal_tree.specs.declared.expr.Arm.{roll-Arm}
use Rattle.typed_tree.specs.declared.expr.TypedExpr.{TypedExpr}
use Rattle.typed_tree.specs.declared.expr.TypedKind.TheVariants as typed
use Rattle.typed_tree.specs.Scopes.{Scope, no_names, define}
use Rattle.typed_tree.specs.Types.{Member}
use Rattle.typed_tree.specs.Typing.{Known, at, with, Types}
use Rattle.meaning.specs.Plain.{plain_meaning}
use Rattle.typed_rows.specs.Rows.{Of}

-- names 0 and 1 are spelled alike
abbrev pub spellings : List (List ℕ)
spellings = codes "a" ∷ codes "a" ∷ codes "u" ∷ codes "x" ∷ []

-- union [a: integer; a: boolean]
abbrev pub tags : List Member
tags = (codes "a", ty.Int) ∷ (codes "a", ty.Bool) ∷ []

abbrev pub forms : List Form
forms = form.Boolean ∷ form.Character ∷ form.Integer ∷ form.Null ∷ form.Array 1 ∷ form.Union (record { name = 0; ty = 2 } ∷ record { name = 1; ty = 0 } ∷ []) ∷ []

abbrev pub known : Known
known = record { forms = forms; spellings = spellings; types = []; functions = [] }

-- u is a name of this union
abbrev pub scope : Scope
scope = define 2 (ty.Uni tags) no_names

abbrev pub none_written : Written → Ty → Type 0
none_written w t = ⊥

abbrev pub named : ℕ → Named
named x = record { name = x; line = 1 }

abbrev pub zero_of : Expr
zero_of = at 1 (tree.Constant (constant.Integer (pos 0)))

-- tagcase x := u tag a: x otherwise: 0 end tagcase
abbrev pub expression : Expr
expression =
    at 1 (tree.TagCase (roll-TagCase
    (record {
      name = Some 3;
      subject = at 1 (tree.Name 2);
      arms = roll-Arm (record { line = 1; tags = named 0 ∷ []; results = at 1 (tree.Name 3) ∷ [] }) ∷ [];
      otherwise = Some (zero_of ∷ []);
    })))

-- it chooses by the second tag
abbrev pub typed_expression : TypedExpr
typed_expression =
    with 1 (2 ∷ []) (typed.Case (record { named = 1; choices = record { tag = 1; arm = 0 } ∷ []; others = 1 }) (with 1 (5 ∷ []) (typed.Value 0) ∷ [])
    ((with 1 (2 ∷ []) (typed.Value 1) ∷ []) ∷ (with 1 (2 ∷ []) (typed.Constant (constant.Integer (pos 0))) ∷ []) ∷ []))

abbrev pub truth : Val
truth = val.Bool true

-- An integer by the rules, whose value is a truth value, where u is the union of the second tag.
pub record DoNamesAlikeBreak : Type 0 where
  pub typed : Types known none_written scope expression typed_expression (ty.Int ∷ [])
  pub argument : Of (ty.Uni tags) (val.Uni 1 truth)
  pub steps : ℕ
  pub value : plain_meaning 0 [] typed_expression (val.Uni 1 truth ∷ []) ≡ Some (truth ∷ [], steps)
  pub wrong : Of ty.Int truth → ⊥
