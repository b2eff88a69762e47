-- What the laws of refused expressions say: an expression one of whose parts breaks a rule breaks it, and one whose parts are typed,
-- also where types stand by their numbers, and that is refused.
use Rattle.std.specs.Prelude.{◌≡◌, ℕ, List, [], ◌∷◌, Option, Some, None, slice_range, Contains}
use Rattle.name_scope.specs.Newest.{newest}
use Rattle.flow_value.specs.declared.ty.Ty.{Ty}
use Rattle.sisal_grammar.specs.Placed.{placed}
use Rattle.type_table.specs.declared.form.Form.{Form}
use Rattle.type_table.specs.Tables.{IsTable}
use Rattle.sisal_tree.specs.declared.unit.Written.{Written}
use Rattle.sisal_tree.specs.declared.unit.FunKind.TheVariants as fun
use Rattle.sisal_tree.specs.declared.unit.Unit as text
use Rattle.sisal_tree.specs.declared.expr.Def.{Def}
use Rattle.sisal_tree.specs.declared.expr.Elements.{Elements, out-Elements}
use Rattle.sisal_tree.specs.declared.expr.Expr.{Expr}
use Rattle.sisal_tree.specs.declared.expr.ExprKind.{ExprKind}
use Rattle.sisal_tree.specs.declared.expr.ExprKind.TheVariants as tree
use Rattle.sisal_tree.specs.declared.expr.ExprKind.TheViews.{out-ExprKind}
use Rattle.sisal_tree.specs.declared.expr.FieldValue.{FieldValue}
use Rattle.sisal_tree.specs.declared.expr.PrefixOperator.{PrefixOperator}
use Rattle.sisal_tree.specs.declared.expr.BinaryOperator.{BinaryOperator}
use Rattle.sisal_tree.specs.declared.expr.Scalar.{Scalar}
use Rattle.typed_tree.specs.declared.expr.TypedExpr.{TypedExpr}
use Rattle.typed_tree.specs.Typing.{at}
use Rattle.typed_tree.specs.Written.{Misnames}
use Rattle.typed_tree.specs.Units.{Declared, AreDeclared, known}
use Rattle.typed_tree.specs.Faults.{BreaksUnit}
use Rattle.type_rules.specs.declared.head.Head.{Head}
use Rattle.type_rules.specs.Applies.{Grows}
use Rattle.unit_types.specs.Rests.{AreKnown, AreTokensSpelled}
use Rattle.value_names.specs.Names.{Names}
use Rattle.value_names.specs.Scopes.{seen}
use Rattle.typing_laws.specs.Bodies.{parameters_in}
use Rattle.typing_laws.specs.Defining.{AllDefined}
use Rattle.typing_laws.specs.Forming.{IsHead, Operands}
use Rattle.typing_laws.specs.Given.{Header, Given, Parts}
use Rattle.typing_laws.specs.Judged.{IsUsedIn, IsSignature, Typed, AllTyped, AllOnes}
use Rattle.breaking_laws.specs.Broken.{Reaches, IsWhole, Misnamed, Broken, BrokenOne, BrokenIn, BrokenForm, BrokenField, BreaksInAt}
use Rattle.breaking_laws.specs.Parts.{BrokenDefs}
use Rattle.breaking_laws.specs.Refusals.{NotOne, Refuses, HasElements, Uneven, RefusesCall}

-- ---- names

-- a name that stands for nothing, or for nothing yet
abbrev pub UnknownLaw : Type 0
UnknownLaw = (g : Given) (f : List Form) (names : Names) (line x : ℕ) → IsTable f → seen (newest x names.names) ≡ None → Broken g f names (at line (tree.Name x)) 9 line

abbrev pub NoLoopNameLaw : Type 0
NoLoopNameLaw = (g : Given) (f : List Form) (names : Names) (line x : ℕ) → IsTable f → newest x names.olds ≡ None → Broken g f names (at line (tree.Old x)) 10 line

-- ---- one value, and lists

-- an expression that has no value or several, where one is wanted
abbrev pub NotOneLaw : Type 0
NotOneLaw = (g : Given) (f0 f1 : List Form) (names : Names) (e : Expr) (t : TypedExpr) (rule line : ℕ) → IsUsedIn g f0 f1 → IsTable f1 → Typed g f1 names e t → t.line ≡ e.line
    → NotOne t rule line → BrokenOne g f0 names e rule line

abbrev pub OneLaw : Type 0
OneLaw = (g : Given) (f : List Form) (names : Names) (e : Expr) (rule line : ℕ) → Broken g f names e rule line → BrokenOne g f names e rule line

-- one of some expressions, where those before it are typed
abbrev pub ListLaw : Type 0
ListLaw = (g : Given) (f0 f1 : List Form) (names : Names) (es : List Expr) (e : Expr) (rule line : ℕ) → IsUsedIn g f0 f1 → Contains es e → Broken g f1 names e rule line
    → BrokenIn g f0 names es rule line

abbrev pub FieldLaw : Type 0
FieldLaw = (g : Given) (f0 f1 : List Form) (names : Names) (vs : List FieldValue) (v : FieldValue) (rule line : ℕ) → IsUsedIn g f0 f1 → Contains vs v
    → BrokenOne g f1 names v.value rule line → BrokenField g f0 names vs rule line

abbrev pub GroupLaw : Type 0
GroupLaw = (g : Given) (f : List Form) (names : Names) (l : ℕ) (e : Expr) (rule line : ℕ) → Broken g f names e rule line → Broken g f names (at l (tree.Group e)) rule line

-- ---- operands

-- an operand of a form, of which one value is wanted
pub data IsOperand : ExprKind → Expr → Type 0 where
  convert : (c : Scalar) (e : Expr) → IsOperand (tree.Convert c e) e
  is_error : (e : Expr) → IsOperand (tree.IsError e) e
  is_tag : (x : ℕ) (e : Expr) → IsOperand (tree.IsTag x e) e
  prefix : (o : PrefixOperator) (e : Expr) → IsOperand (tree.Prefix o e) e
  field : (e : Expr) (x : ℕ) → IsOperand (tree.Field e x) e
  union : (x tag : ℕ) (e : Expr) → IsOperand (tree.Union x tag e) e
  left : (o : BinaryOperator) (e f : Expr) → IsOperand (tree.Binary o e f) e
  right : (o : BinaryOperator) (e f : Expr) → IsOperand (tree.Binary o e f) f
  selected : (e i : Expr) → IsOperand (tree.Select e i) e
  index : (e i : Expr) → IsOperand (tree.Select e i) i
  updated : (e i f : Expr) → IsOperand (tree.Update e i f) e
  place : (e i f : Expr) → IsOperand (tree.Update e i f) i
  value : (e i f : Expr) → IsOperand (tree.Update e i f) f
  replaced : (e : Expr) (vs : List FieldValue) → IsOperand (tree.Replace e vs) e
  lower : (x : Option ℕ) (els : Elements) → IsOperand (tree.Array x (Some els)) (out-Elements els).lower

abbrev pub OperandLaw : Type 0
OperandLaw = (g : Given) (f0 f1 : List Form) (names : Names) (kind : ExprKind) (e : Expr) (rule line : ℕ) → IsUsedIn g f0 f1 → IsOperand kind e → BrokenOne g f1 names e rule line
    → BrokenForm g f0 names kind rule line

-- the elements of an array or a stream
pub data AreElementsOf : ExprKind → List Expr → Type 0 where
  array : (x : Option ℕ) (els : Elements) → AreElementsOf (tree.Array x (Some els)) (out-Elements els).values
  stream : (x : Option ℕ) (es : List Expr) → AreElementsOf (tree.Stream x es) es

abbrev pub ElementsLaw : Type 0
ElementsLaw = (g : Given) (f0 f1 : List Form) (names : Names) (kind : ExprKind) (es : List Expr) (rule line : ℕ) → IsUsedIn g f0 f1 → AreElementsOf kind es → BrokenIn g f1 names es rule line
    → BrokenForm g f0 names kind rule line

-- the values of fields
pub data AreFieldsOf : ExprKind → List FieldValue → Type 0 where
  replace : (e : Expr) (vs : List FieldValue) → AreFieldsOf (tree.Replace e vs) vs
  a_record : (x : Option ℕ) (vs : List FieldValue) → AreFieldsOf (tree.Record x vs) vs

abbrev pub FieldsLaw : Type 0
FieldsLaw = (g : Given) (f0 f1 : List Form) (names : Names) (kind : ExprKind) (vs : List FieldValue) (rule line : ℕ) → IsUsedIn g f0 f1 → AreFieldsOf kind vs → BrokenField g f1 names vs rule line
    → BrokenForm g f0 names kind rule line

-- ---- forms

-- the name of the type of a constructor
pub data NamesType : ExprKind → ℕ → Type 0 where
  array : (x : ℕ) (els : Option Elements) → NamesType (tree.Array (Some x) els) x
  stream : (x : ℕ) (es : List Expr) → NamesType (tree.Stream (Some x) es) x
  a_record : (x : ℕ) (vs : List FieldValue) → NamesType (tree.Record (Some x) vs) x
  union : (x tag : ℕ) (e : Expr) → NamesType (tree.Union x tag e) x

abbrev pub NoTypeLaw : Type 0
NoTypeLaw = (g : Given) (f : List Form) (names : Names) (line : ℕ) (kind : ExprKind) (x : ℕ) → IsTable f → NamesType kind x → newest x g.named ≡ None → Broken g f names (at line kind) 2 line

-- a written type that breaks the rule where the names of types are known by the table so far
abbrev pub WrittenLaw : Type 0
WrittenLaw = (g : Given) (f : List Form) (w : Written) (rule line : ℕ) → IsTable f
    → ((spellings : List (List ℕ)) (types : List (ℕ × Ty)) → AreTokensSpelled spellings g.tokens → AreKnown f spellings g.named types → Misnames spellings types (slice_range (placed 0 g.tokens) w.from w.to) rule line)
    → Misnamed g f w rule line

abbrev pub ErrorOfLaw : Type 0
ErrorOfLaw = (g : Given) (f : List Form) (names : Names) (l : ℕ) (w : Written) (rule line : ℕ) → Misnamed g f w rule line → Broken g f names (at l (tree.ErrorOf w)) rule line

-- a form that makes nothing of its operands, or a type that is too deep
abbrev pub RefusedLaw : Type 0
RefusedLaw = (g : Given) (f0 f1 f2 : List Form) (names : Names) (kind : ExprKind) (h : Head) (parts : Parts) (at_line rule line : ℕ) → IsUsedIn g f0 f2 → IsTable f2 → IsHead g f1 kind h → Grows f1 f2
    → Operands g f2 names kind parts.exprs parts.types → HasElements (out-ExprKind kind) parts.types → Refuses f2 at_line h parts.types rule line → Broken g f0 names (at at_line kind) rule line

-- ---- calls

abbrev pub ArgumentsLaw : Type 0
ArgumentsLaw = (g : Given) (f : List Form) (names : Names) (l x : ℕ) (es : List Expr) (rule line : ℕ) → BrokenIn g f names es rule line → Broken g f names (at l (tree.Call x es)) rule line

abbrev pub RefusedCallLaw : Type 0
RefusedCallLaw = (g : Given) (f0 f1 : List Form) (names : Names) (l x : ℕ) (es : List Expr) (operands : Parts) (rule line : ℕ) → IsUsedIn g f0 f1 → IsTable f1
    → AllTyped g f1 names es operands.exprs operands.types → RefusesCall g f1 l x operands.types rule line → Broken g f0 names (at l (tree.Call x es)) rule line

-- ---- `let` and `if`

abbrev pub DefinitionsLaw : Type 0
DefinitionsLaw = (g : Given) (f : List Form) (names : Names) (l : ℕ) (ds : List Def) (es : List Expr) (rule line : ℕ) → BrokenDefs g f names None ds rule line → Broken g f names (at l (tree.Let ds es)) rule line

abbrev pub ResultsLaw : Type 0
ResultsLaw = (g : Given) (f0 f1 : List Form) (names inside : Names) (l : ℕ) (ds : List Def) (es : List Expr) (us : List (List TypedExpr)) (ns : List ℕ) (rule line : ℕ) → IsUsedIn g f0 f1
    → AllDefined g f1 names inside None ds us ns → BrokenIn g f1 inside es rule line → Broken g f0 names (at l (tree.Let ds es)) rule line

abbrev pub TestLaw : Type 0
TestLaw = (g : Given) (f : List Form) (names : Names) (l : ℕ) (c : Expr) (es fs : List Expr) (rule line : ℕ) → BrokenOne g f names c rule line → Broken g f names (at l (tree.If c es fs)) rule line

abbrev pub ThenLaw : Type 0
ThenLaw = (g : Given) (f0 f1 : List Form) (names : Names) (l : ℕ) (c : Expr) (es fs : List Expr) (rule line : ℕ) → IsUsedIn g f0 f1 → BrokenIn g f1 names es rule line
    → Broken g f0 names (at l (tree.If c es fs)) rule line

abbrev pub ElseLaw : Type 0
ElseLaw = (g : Given) (f0 f1 : List Form) (names : Names) (l : ℕ) (c : Expr) (es fs : List Expr) (rule line : ℕ) → IsUsedIn g f0 f1 → BrokenIn g f1 names fs rule line
    → Broken g f0 names (at l (tree.If c es fs)) rule line

abbrev pub UnevenLaw : Type 0
UnevenLaw = (g : Given) (f0 f1 f2 f3 : List Form) (names : Names) (l : ℕ) (c : Expr) (es fs : List Expr) (test one other : Parts) (rule line : ℕ) → IsUsedIn g f0 f3 → IsTable f3 → Grows f1 f3 → Grows f2 f3
    → AllOnes g f1 names (c ∷ []) test.exprs test.types → AllTyped g f2 names es one.exprs one.types → AllTyped g f3 names fs other.exprs other.types
    → Uneven l test.types one.types other.types rule line → Broken g f0 names (at l (tree.If c es fs)) rule line

-- ---- functions

-- the results of a function have other types than its header says
pub record OtherResults (g : Given) (h : Header) (es : List Expr) (forms : List Form) : Type 0 where
  pub exprs : List TypedExpr
  pub types : List ℕ
  pub typed : AllTyped g forms (parameters_in h) es exprs types
  pub other : types ≡ h.results → ⊥

-- the results of a function on a line break the rule
pub data BreaksBodyAt (g : Given) (h : Header) (at : ℕ) (es : List Expr) (rule line : ℕ) (forms : List Form) : Type 0 where
  inside : BreaksInAt g (parameters_in h) es rule line forms → BreaksBodyAt g h at es rule line forms
  other : rule ≡ 13 → line ≡ at → OtherResults g h es forms → BreaksBodyAt g h at es rule line forms

abbrev pub BrokenBody : Given → List Form → Header → ℕ → List Expr → ℕ → ℕ → Type 0
BrokenBody g old h at es rule line = Reaches g old (BreaksBodyAt g h at es rule line)

abbrev pub BodyLaw : Type 0
BodyLaw = (u : text.Unit) (forms : List Form) (ds : List Declared) (d : Declared) (g : Given) (h : Header) (es : List Expr) (rule line : ℕ) → g.tokens ≡ u.tokens.list
    → AreDeclared u ds → Contains ds d → d.function.kind ≡ fun.Defined es → IsWhole g forms (known u forms ds d.types) → IsSignature (known u forms ds d.types) h d.signature
    → BreaksBodyAt g h d.function.line es rule line forms → BreaksUnit u rule line
