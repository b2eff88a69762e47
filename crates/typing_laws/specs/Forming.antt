-- The forms over operands, and what is made of them.
use Rattle.std.specs.Prelude.{◌≡◌, ℕ, ◌<◌, List, [], ◌∷◌, map, length, Option, Some, None, slice_get, All}
use Rattle.name_scope.specs.Newest.{newest}
use Rattle.sisal_lex.specs.Words.{beside}
use Rattle.flow_value.specs.declared.ty.Ty.{Ty}
use Rattle.type_table.specs.declared.form.Form.{Form}
use Rattle.sisal_tree.specs.declared.unit.Written.{Written}
use Rattle.sisal_tree.specs.declared.expr.Arm.{Arm}
use Rattle.sisal_tree.specs.declared.expr.BinaryOperator.{BinaryOperator}
use Rattle.sisal_tree.specs.declared.expr.Clause.{Clause}
use Rattle.sisal_tree.specs.declared.expr.Constant.{Constant}
use Rattle.sisal_tree.specs.declared.expr.Constant.TheVariants as constant
use Rattle.sisal_tree.specs.declared.expr.Def.{Def}
use Rattle.sisal_tree.specs.declared.expr.Elements.{Elements, out-Elements}
use Rattle.sisal_tree.specs.declared.expr.Expr.{Expr}
use Rattle.sisal_tree.specs.declared.expr.ExprKind.{ExprKind}
use Rattle.sisal_tree.specs.declared.expr.ExprKind.TheOpen.{ExprKind-F}
use Rattle.sisal_tree.specs.declared.expr.ExprKind.TheVariants as tree
use Rattle.sisal_tree.specs.declared.expr.ExprKind.TheViews.{out-ExprKind}
use Rattle.sisal_tree.specs.declared.expr.FieldValue.{FieldValue}
use Rattle.sisal_tree.specs.declared.expr.Generator.{Generator}
use Rattle.sisal_tree.specs.declared.expr.Loop.{Loop}
use Rattle.sisal_tree.specs.declared.expr.Mask.{Mask}
use Rattle.sisal_tree.specs.declared.expr.PrefixOperator.{PrefixOperator}
use Rattle.sisal_tree.specs.declared.expr.Scalar.{Scalar}
use Rattle.sisal_tree.specs.declared.expr.TagCase.{TagCase}
use Rattle.sisal_tree.specs.declared.expr.Turn.{Turn}
use Rattle.typed_tree.specs.declared.expr.TypedExpr.{TypedExpr}
use Rattle.typed_tree.specs.declared.expr.TypedKind.TheVariants as typed
use Rattle.typed_tree.specs.declared.built_in.BuiltIn.{BuiltIn}
use Rattle.typed_tree.specs.BuiltIns.{built_ins}
use Rattle.typed_tree.specs.Types.{IsNumber}
use Rattle.typed_tree.specs.Typing.{Known, IsTypeNamed, with}
use Rattle.type_rules.specs.declared.head.Applied.{Applied}
use Rattle.type_rules.specs.declared.head.Head.{Head}
use Rattle.type_rules.specs.declared.head.Head.TheVariants as head
use Rattle.type_rules.specs.Applies.{IsApplied}
use Rattle.value_names.specs.Names.{Names}
use Rattle.typing_laws.specs.Given.{Header, Given, Parts}
use Rattle.typing_laws.specs.Judged.{Agrees, denotes_in, AllOnes, AllTyped, AllElements}

-- ---- heads

-- the type of a name, and its number
pub record IsNamedAs (k : Known) (x n : ℕ) : Type 0 where
  pub type : Ty
  pub named : IsTypeNamed k x type
  pub number : IsNumber k.forms k.spellings n type

-- the same where there may be no name
abbrev pub AreNamedAs : Known → Option ℕ → Option ℕ → Type 0
AreNamedAs k None None = Unit {0}
AreNamedAs k (Some x) (Some n) = IsNamedAs k x n
AreNamedAs k _ _ = ⊥

abbrev pub fields_of : List FieldValue → List ℕ
fields_of vs = map (λ v. v.field.name) vs

-- the form of an expression over operands
pub data HasHead (k : Known) (denotes : Written → Ty → Type 0) : ExprKind → Head → Type 0 where
  convert : (c : Scalar) (e : Expr) → HasHead k denotes (tree.Convert c e) (head.Convert c)
  error_of : (w : Written) {n : ℕ} {a : Ty} → denotes w a → IsNumber k.forms k.spellings n a → HasHead k denotes (tree.ErrorOf w) (head.ErrorOf n)
  is_error : (e : Expr) → HasHead k denotes (tree.IsError e) head.IsError
  is_tag : (x : ℕ) (e : Expr) → HasHead k denotes (tree.IsTag x e) (head.IsTag x)
  prefix : (o : PrefixOperator) (e : Expr) → HasHead k denotes (tree.Prefix o e) (head.Prefix o)
  binary : (o : BinaryOperator) (e f : Expr) → HasHead k denotes (tree.Binary o e f) (head.Binary o)
  select : (e i : Expr) → HasHead k denotes (tree.Select e i) head.Select
  update : (e i f : Expr) → HasHead k denotes (tree.Update e i f) head.Update
  field : (e : Expr) (x : ℕ) → HasHead k denotes (tree.Field e x) (head.Field x)
  replace : (e : Expr) (vs : List FieldValue) → HasHead k denotes (tree.Replace e vs) (head.Replace (fields_of vs))
  array : (x : Option ℕ) (els : Elements) {named : Option ℕ} → AreNamedAs k x named → HasHead k denotes (tree.Array x (Some els)) (head.Array named)
  empty_array : (x : Option ℕ) {named : Option ℕ} → AreNamedAs k x named → HasHead k denotes (tree.Array x None) (head.EmptyArray named)
  stream : (x : Option ℕ) (es : List Expr) {named : Option ℕ} → AreNamedAs k x named → HasHead k denotes (tree.Stream x es) (head.Stream named)
  a_record : (x : Option ℕ) (vs : List FieldValue) {named : Option ℕ} → AreNamedAs k x named → All (λ y. y < length k.spellings) (fields_of vs)
      → HasHead k denotes (tree.Record x vs) (head.Record named (fields_of vs))
  union : (x tag : ℕ) (e : Expr) {n : ℕ} → IsNamedAs k x n → HasHead k denotes (tree.Union x tag e) (head.Union n tag)

pub record IsHead (g : Given) (forms : List Form) (kind : ExprKind) (h : Head) : Type 0 where
  pub holds : (k : Known) → Agrees g forms k → HasHead k (denotes_in g k) kind h

-- the form of an expression that names no type
pub record IsPlain (kind : ExprKind) (h : Head) : Type 0 where
  pub holds : (g : Given) (k : Known) → HasHead k (denotes_in g k) kind h

-- the number of a name, where there is a name
abbrev pub AreFound : List (ℕ × ℕ) → Option ℕ → Option ℕ → Type 0
AreFound names None None = Unit {0}
AreFound names (Some x) (Some n) = newest x names ≡ Some n
AreFound names _ _ = ⊥

pub record IsRecordHead (g : Given) (x : Option ℕ) (vs : List FieldValue) (h : Head) : Type 0 where
  pub named : Option ℕ
  pub is : h ≡ head.Record named (fields_of vs)
  pub found : AreFound g.named x named
  pub spelled : All (λ y. y < length g.spellings) (fields_of vs)

-- ---- operands

abbrev pub NoOperands : List TypedExpr → List ℕ → Type 0
NoOperands ts ns = (ts ≡ []) × (ns ≡ [])

-- the lower bound of an array, and its elements
pub record AreElements (g : Given) (forms : List Form) (names : Names) (els : Elements) (ts : List TypedExpr) (ns : List ℕ) : Type 0 where
  pub low : TypedExpr
  pub bound : ℕ
  pub exprs : List TypedExpr
  pub types : List ℕ
  pub is_exprs : ts ≡ low ∷ exprs
  pub is_types : ns ≡ bound ∷ types
  pub lower : AllOnes g forms names ((out-Elements els).lower ∷ []) (low ∷ []) (bound ∷ [])
  pub elements : AllTyped g forms names (out-Elements els).values exprs types

-- the operands of a form, with their types
abbrev pub OperandsIn : Given → List Form → Names → ExprKind-F ExprKind Loop Arm Clause Def Elements Expr FieldValue Generator Mask TagCase Turn → List TypedExpr → List ℕ → Type 0
OperandsIn g forms names (ExprKind-F.Convert c e) ts ns = AllOnes g forms names (e ∷ []) ts ns
OperandsIn g forms names (ExprKind-F.IsError e) ts ns = AllOnes g forms names (e ∷ []) ts ns
OperandsIn g forms names (ExprKind-F.IsTag x e) ts ns = AllOnes g forms names (e ∷ []) ts ns
OperandsIn g forms names (ExprKind-F.Prefix o e) ts ns = AllOnes g forms names (e ∷ []) ts ns
OperandsIn g forms names (ExprKind-F.Field e x) ts ns = AllOnes g forms names (e ∷ []) ts ns
OperandsIn g forms names (ExprKind-F.Union x tag e) ts ns = AllOnes g forms names (e ∷ []) ts ns
OperandsIn g forms names (ExprKind-F.Binary o e f) ts ns = AllOnes g forms names (e ∷ f ∷ []) ts ns
OperandsIn g forms names (ExprKind-F.Select e i) ts ns = AllOnes g forms names (e ∷ i ∷ []) ts ns
OperandsIn g forms names (ExprKind-F.Update e i f) ts ns = AllOnes g forms names (e ∷ i ∷ f ∷ []) ts ns
OperandsIn g forms names (ExprKind-F.Replace e vs) ts ns = AllOnes g forms names (e ∷ map (λ v. v.value) vs) ts ns
OperandsIn g forms names (ExprKind-F.Array x (Some els)) ts ns = AreElements g forms names els ts ns
OperandsIn g forms names (ExprKind-F.Stream x es) ts ns = AllElements g forms names es ts ns
OperandsIn g forms names (ExprKind-F.Record x vs) ts ns = AllOnes g forms names (map (λ v. v.value) vs) ts ns
OperandsIn g forms names _ ts ns = NoOperands ts ns

pub record Operands (g : Given) (forms : List Form) (names : Names) (kind : ExprKind) (ts : List TypedExpr) (ns : List ℕ) : Type 0 where
  pub is : OperandsIn g forms names (out-ExprKind kind) ts ns

-- ---- what is made

-- a form over operands of these types, where the table grows
pub record Finishes (old new : List Form) (line : ℕ) (h : Head) (parts : Parts) (t : TypedExpr) : Type 0 where
  pub applied : Applied
  pub is_applied : IsApplied old h parts.types applied new
  pub is : t ≡ with line (applied.ty ∷ []) (typed.Apply applied.operation parts.exprs)

-- the number of a constant's type
abbrev pub constant_number : Constant → ℕ
constant_number (constant.Integer n) = 2
constant_number (constant.Letter c) = 1
constant_number (constant.Quoted s) = 4
constant_number constant.True = 0
constant_number constant.False = 0
constant_number constant.Nil = 3

pub record IfElses (line : ℕ) (test yes no : Parts) (t : TypedExpr) : Type 0 where
  pub truth : test.types ≡ 0 ∷ []
  pub same : yes.types ≡ no.types
  pub is : t ≡ with line yes.types (typed.If test.exprs yes.exprs no.exprs)

-- ---- calls

-- the call of the function of a number
pub record CallsOf (g : Given) (line number : ℕ) (operands : Parts) (t : TypedExpr) : Type 0 where
  pub function : Header
  pub there : slice_get g.functions number ≡ Some function
  pub params : operands.types ≡ function.params
  pub is : t ≡ with line function.results (typed.Call number operands.exprs)

-- the call of a name that is built in
pub record IsBuiltIn (g : Given) (x : ℕ) (b : BuiltIn) : Type 0 where
  pub spelling : List ℕ
  pub spelled : slice_get g.spellings x ≡ Some spelling
  pub named : beside spelling built_ins ≡ Some b

pub data Calls (g : Given) (old new : List Form) (line x : ℕ) (operands : Parts) (t : TypedExpr) : Type 0 where
  own : (n : ℕ) → newest x g.numbers ≡ Some n → CallsOf g line n operands t → Calls g old new line x operands t
  built_in : (b : BuiltIn) → IsBuiltIn g x b → Finishes old new line (head.BuiltIn b) operands t → Calls g old new line x operands t
