-- What the small functions of the walk over expressions refuse, by the numbers of types: the rule, and the line.
use Rattle.std.specs.Prelude.{◌≡◌, ◌⊎◌, ℕ, ◌<◌, List, [], ◌∷◌, length, Option, Some, None, slice_get}
use Rattle.name_scope.specs.Newest.{newest}
use Rattle.type_table.specs.declared.form.Form.{Form}
use Rattle.sisal_tree.specs.declared.expr.Arm.{Arm}
use Rattle.sisal_tree.specs.declared.expr.Clause.{Clause}
use Rattle.sisal_tree.specs.declared.expr.Def.{Def}
use Rattle.sisal_tree.specs.declared.expr.Elements.{Elements}
use Rattle.sisal_tree.specs.declared.expr.Expr.{Expr}
use Rattle.sisal_tree.specs.declared.expr.ExprKind.{ExprKind}
use Rattle.sisal_tree.specs.declared.expr.ExprKind.TheOpen.{ExprKind-F}
use Rattle.sisal_tree.specs.declared.expr.FieldValue.{FieldValue}
use Rattle.sisal_tree.specs.declared.expr.Generator.{Generator}
use Rattle.sisal_tree.specs.declared.expr.Loop.{Loop}
use Rattle.sisal_tree.specs.declared.expr.Mask.{Mask}
use Rattle.sisal_tree.specs.declared.expr.TagCase.{TagCase}
use Rattle.sisal_tree.specs.declared.expr.Turn.{Turn}
use Rattle.typed_tree.specs.declared.built_in.BuiltIn.{BuiltIn}
use Rattle.typed_tree.specs.declared.expr.TypedExpr.{TypedExpr}
use Rattle.type_rules.specs.declared.fault.Refused.TheVariants as refused
use Rattle.type_rules.specs.declared.head.Head.{Head}
use Rattle.type_rules.specs.declared.head.Head.TheVariants as head
use Rattle.type_rules.specs.Applies.{IsRefused}
use Rattle.typing_laws.specs.Given.{Header, Given}
use Rattle.typing_laws.specs.Forming.{IsBuiltIn}

-- there is no fault but want of memory
abbrev pub Never : ℕ → ℕ → Type 0
Never rule line = ⊥

-- one value is wanted
abbrev pub NotOne : TypedExpr → ℕ → ℕ → Type 0
NotOne t rule line = (rule ≡ 16) × (line ≡ t.line) × (length t.types ≡ 1 → ⊥)

-- a name that is no name of a type
abbrev pub NoNumber : List (ℕ × ℕ) → Option ℕ → Type 0
NoNumber names None = ⊥
NoNumber names (Some x) = newest x names ≡ None

abbrev pub IsUnnamed : List (ℕ × ℕ) → Option ℕ → ℕ → ℕ → ℕ → Type 0
IsUnnamed names x at rule line = (rule ≡ 2) × (line ≡ at) × NoNumber names x

-- a form that makes nothing of operands of these types
abbrev pub Refuses : List Form → ℕ → Head → List ℕ → ℕ → ℕ → Type 0
Refuses forms at h ns rule line = (line ≡ at) × IsRefused forms h ns (refused.Rule rule)

-- an array has elements
abbrev pub HasElements : ExprKind-F ExprKind Loop Arm Clause Def Elements Expr FieldValue Generator Mask TagCase Turn → List ℕ → Type 0
HasElements (ExprKind-F.Array x (Some els)) ns = 1 < length ns
HasElements _ ns = Unit {0}

-- `if` whose test is no boolean, or whose parts have other types
abbrev pub Uneven : ℕ → List ℕ → List ℕ → List ℕ → ℕ → ℕ → Type 0
Uneven at test one other rule line = (rule ≡ 17) × (line ≡ at) × ((test ≡ 0 ∷ [] → ⊥) ⊎ (one ≡ other → ⊥))

-- ---- calls

-- the function of a number has other parameters
pub record HasOthers (functions : List Header) (n : ℕ) (ns : List ℕ) : Type 0 where
  pub header : Header
  pub there : slice_get functions n ≡ Some header
  pub other : ns ≡ header.params → ⊥

abbrev pub OtherParams : Given → ℕ → ℕ → List ℕ → ℕ → ℕ → Type 0
OtherParams g at n ns rule line = (rule ≡ 12) × (line ≡ at) × HasOthers g.functions n ns

-- a name that is not built in
abbrev pub IsNoBuiltIn : Given → ℕ → Type 0
IsNoBuiltIn g x = (b : BuiltIn) → IsBuiltIn g x b → ⊥

-- a call over operands of these types
pub data RefusesCall (g : Given) (forms : List Form) (at x : ℕ) (ns : List ℕ) (rule line : ℕ) : Type 0 where
  own : (n : ℕ) → newest x g.numbers ≡ Some n → OtherParams g at n ns rule line → RefusesCall g forms at x ns rule line
  built_in : (b : BuiltIn) → IsBuiltIn g x b → Refuses forms at (head.BuiltIn b) ns rule line → RefusesCall g forms at x ns rule line
  no_function : rule ≡ 11 → line ≡ at → newest x g.numbers ≡ None → IsNoBuiltIn g x → RefusesCall g forms at x ns rule line
