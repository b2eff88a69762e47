-- What the typed tree of an expression must consist of, by the form of the expression: the typing rules (typed_tree/specs/Typing)
-- read from the conclusion to the premises, at one table of types.
use Rattle.std.specs.Prelude.{◌≡◌, ◌⊎◌, ℕ, List, [], ◌∷◌, ◌++◌, length, Bool, Option, Some, None, All}
use Rattle.name_scope.specs.Newest.{newest}
use Rattle.flow_value.specs.declared.ty.Ty.{Ty}
use Rattle.flow_value.specs.declared.ty.Ty.TheVariants as ty
use Rattle.sisal_tree.specs.declared.unit.Named.{Named}
use Rattle.sisal_tree.specs.declared.unit.Written.{Written}
use Rattle.sisal_tree.specs.declared.expr.Expr.{Expr}
use Rattle.sisal_tree.specs.declared.expr.ExprKind.{ExprKind}
use Rattle.sisal_tree.specs.declared.expr.ExprKind.TheOpen.{ExprKind-F, Loop-F}
use Rattle.sisal_tree.specs.declared.expr.ExprKind.TheViews.{out-Loop}
use Rattle.sisal_tree.specs.declared.expr.Scalar.{Scalar}
use Rattle.sisal_tree.specs.declared.expr.PrefixOperator.{PrefixOperator}
use Rattle.sisal_tree.specs.declared.expr.BinaryOperator.{BinaryOperator}
use Rattle.sisal_tree.specs.declared.expr.ClauseKind.{ClauseKind}
use Rattle.sisal_tree.specs.declared.expr.FieldValue.{FieldValue}
use Rattle.sisal_tree.specs.declared.expr.Elements.{Elements, out-Elements}
use Rattle.sisal_tree.specs.declared.expr.Def.{Def, out-Def}
use Rattle.sisal_tree.specs.declared.expr.Target.{Target}
use Rattle.sisal_tree.specs.declared.expr.TagCase.{TagCase, out-TagCase}
use Rattle.sisal_tree.specs.declared.expr.Arm.{Arm, out-Arm}
use Rattle.sisal_tree.specs.declared.expr.Loop.{Loop}
use Rattle.sisal_tree.specs.declared.expr.Generator.{Generator, out-Generator}
use Rattle.sisal_tree.specs.declared.expr.Turn.{Turn, out-Turn}
use Rattle.sisal_tree.specs.declared.expr.Clause.{Clause, out-Clause}
use Rattle.sisal_tree.specs.declared.expr.Mask.{Mask}
use Rattle.flow_value.specs.declared.operation.Scalar1.TheVariants as unary
use Rattle.value_ops.specs.declared.operation.Operation.TheVariants as operation
use Rattle.typed_tree.specs.declared.built_in.BuiltIn.{BuiltIn}
use Rattle.typed_tree.specs.declared.expr.TypedExpr.{TypedExpr}
use Rattle.typed_tree.specs.declared.expr.TypedKind.{TypedKind}
use Rattle.typed_tree.specs.declared.expr.TypedKind.TheVariants as node
use Rattle.typed_tree.specs.declared.expr.Source.{Source}
use Rattle.typed_tree.specs.declared.expr.Source.TheVariants as source
use Rattle.typed_tree.specs.declared.expr.Choice.{Choice}
use Rattle.typed_tree.specs.declared.expr.ClauseForm.{ClauseForm}
use Rattle.typed_tree.specs.Scopes.{Meaning, At, Scope, define_all, targets, in_turn, renewals}
use Rattle.typed_tree.specs.Types.{Member, IsNumber, prefix_type}
use Rattle.typed_tree.specs.Operations.{prefix_operation, binary_operation, convert_operation, built_in_operation, clause_form}
use Rattle.typed_tree.specs.Typing.{Signature, Known, IsFunction, IsBuiltIn, IsTypeNamed, Number, Has, IsTag, Chooses, with, names_of, names_in, loop_of, with_content, named_arms, Folds, Types, AreTyped, Replaces, HasFields, Defines, Crosses, Generates, AreClauses, IsMask, AreArms, IsOtherwise}

-- each type has one number, and each name one function
pub record AreNumbered (k : Known) : Type 0 where
  pub types : (n m : ℕ) (a : Ty) → IsNumber k.forms k.spellings n a → IsNumber k.forms k.spellings m a → n ≡ m
  pub functions : (x n m : ℕ) (f g : Signature) → IsFunction k x n f → IsFunction k x m g → n ≡ m

-- what a generator over elements goes over, with or without an index
abbrev pub source_of : Option ℕ → Source
source_of None = source.Elements
source_of (Some i) = source.Indexed

module _ (k : Known) (denotes : Written → Ty → Type 0) where
  -- the tree of an expression on a line
  pub record HasTree (l : ℕ) (kind : TypedKind) (t : TypedExpr) (tys : List Ty) : Type 0 where
    pub numbers : List ℕ
    pub number : Number k numbers tys
    pub is : t ≡ with l numbers kind

  -- ---- forms of expressions

  -- a name that is in force, or after `old`
  pub record IsNameTree (names : List (ℕ × Meaning)) (l x : ℕ) (t : TypedExpr) (tys : List Ty) : Type 0 where
    pub level : ℕ
    pub type : Ty
    pub there : newest x names ≡ Some (At level type)
    pub tree : HasTree l (node.Value level) t tys

  pub record IsGroupTree (s : Scope) (l : ℕ) (e : Expr) (t : TypedExpr) (tys : List Ty) : Type 0 where
    pub part : TypedExpr
    pub typed : Types k denotes s e part tys
    pub tree : HasTree l (node.Group (part ∷ [])) t tys

  -- the call of a function of the program
  pub record IsOwnCallTree (s : Scope) (l x : ℕ) (es : List Expr) (t : TypedExpr) (tys : List Ty) : Type 0 where
    pub place : ℕ
    pub function : Signature
    pub exprs : List TypedExpr
    pub there : IsFunction k x place function
    pub typed : AreTyped k denotes s es exprs function.params
    pub tree : HasTree l (node.Call place exprs) t tys

  pub record IsBuiltInCallTree (s : Scope) (l x : ℕ) (es : List Expr) (t : TypedExpr) (tys : List Ty) : Type 0 where
    pub call : BuiltIn
    pub exprs : List TypedExpr
    pub operands : List Ty
    pub there : IsBuiltIn k x call
    pub typed : AreTyped k denotes s es exprs operands
    pub tree : HasTree l (node.Apply (built_in_operation call) exprs) t tys

  pub record IsConvertTree (s : Scope) (l : ℕ) (c : Scalar) (e : Expr) (t : TypedExpr) (tys : List Ty) : Type 0 where
    pub type : Ty
    pub part : TypedExpr
    pub typed : Types k denotes s e part (type ∷ [])
    pub tree : HasTree l (node.Apply (convert_operation c) (part ∷ [])) t tys

  pub record IsIsErrorTree (s : Scope) (l : ℕ) (e : Expr) (t : TypedExpr) (tys : List Ty) : Type 0 where
    pub type : Ty
    pub part : TypedExpr
    pub typed : Types k denotes s e part (type ∷ [])
    pub tree : HasTree l (node.Apply (operation.Unary unary.IsError) (part ∷ [])) t tys

  pub record IsIsTagTree (s : Scope) (l x : ℕ) (e : Expr) (t : TypedExpr) (tys : List Ty) : Type 0 where
    pub members : List Member
    pub place : ℕ
    pub content : Ty
    pub part : TypedExpr
    pub typed : Types k denotes s e part (ty.Uni members ∷ [])
    pub has : Has k members x place content
    pub tree : HasTree l (node.Apply (operation.IsTag place) (part ∷ [])) t tys

  pub record IsPrefixTree (s : Scope) (l : ℕ) (o : PrefixOperator) (e : Expr) (t : TypedExpr) (tys : List Ty) : Type 0 where
    pub part : TypedExpr
    pub typed : Types k denotes s e part (prefix_type o ∷ [])
    pub tree : HasTree l (node.Apply (prefix_operation o) (part ∷ [])) t tys

  pub record IsBinaryTree (s : Scope) (l : ℕ) (o : BinaryOperator) (e f : Expr) (t : TypedExpr) (tys : List Ty) : Type 0 where
    pub type : Ty
    pub left : TypedExpr
    pub right : TypedExpr
    pub typed_left : Types k denotes s e left (type ∷ [])
    pub typed_right : Types k denotes s f right (type ∷ [])
    pub tree : HasTree l (node.Apply (binary_operation o) (left ∷ right ∷ [])) t tys

  pub record IsSelectTree (s : Scope) (l : ℕ) (e i : Expr) (t : TypedExpr) (tys : List Ty) : Type 0 where
    pub element : Ty
    pub array : TypedExpr
    pub index : TypedExpr
    pub typed_array : Types k denotes s e array (ty.Arr element ∷ [])
    pub typed_index : Types k denotes s i index (ty.Int ∷ [])
    pub tree : HasTree l (node.Apply operation.Element (array ∷ index ∷ [])) t tys

  pub record IsUpdateTree (s : Scope) (l : ℕ) (e i f : Expr) (t : TypedExpr) (tys : List Ty) : Type 0 where
    pub element : Ty
    pub array : TypedExpr
    pub index : TypedExpr
    pub value : TypedExpr
    pub typed_array : Types k denotes s e array (ty.Arr element ∷ [])
    pub typed_index : Types k denotes s i index (ty.Int ∷ [])
    pub typed_value : Types k denotes s f value (element ∷ [])
    pub tree : HasTree l (node.Apply operation.Update (array ∷ index ∷ value ∷ [])) t tys

  pub record IsFieldTree (s : Scope) (l : ℕ) (e : Expr) (x : ℕ) (t : TypedExpr) (tys : List Ty) : Type 0 where
    pub members : List Member
    pub place : ℕ
    pub content : Ty
    pub part : TypedExpr
    pub typed : Types k denotes s e part (ty.Rec members ∷ [])
    pub has : Has k members x place content
    pub tree : HasTree l (node.Apply (operation.Field place) (part ∷ [])) t tys

  pub record IsReplaceTree (s : Scope) (l : ℕ) (e : Expr) (vs : List FieldValue) (t : TypedExpr) (tys : List Ty) : Type 0 where
    pub members : List Member
    pub part : TypedExpr
    pub places : List ℕ
    pub exprs : List TypedExpr
    pub typed : Types k denotes s e part (ty.Rec members ∷ [])
    pub replaces : Replaces k denotes s members vs places exprs
    pub tree : HasTree l (node.Apply (operation.Change places) (part ∷ exprs)) t tys

  pub record IsArrayTree (s : Scope) (l : ℕ) (low : Expr) (es : List Expr) (t : TypedExpr) (tys : List Ty) : Type 0 where
    pub made : List Ty
    pub bound : TypedExpr
    pub exprs : List TypedExpr
    pub lower : Types k denotes s low bound (ty.Int ∷ [])
    pub typed : AreTyped k denotes s es exprs made
    pub tree : HasTree l (node.Apply operation.Array (bound ∷ exprs)) t tys

  pub record IsStreamTree (s : Scope) (l : ℕ) (es : List Expr) (t : TypedExpr) (tys : List Ty) : Type 0 where
    pub made : List Ty
    pub exprs : List TypedExpr
    pub typed : AreTyped k denotes s es exprs made
    pub tree : HasTree l (node.Apply operation.Stream exprs) t tys

  pub record IsRecordTree (s : Scope) (l : ℕ) (vs : List FieldValue) (t : TypedExpr) (tys : List Ty) : Type 0 where
    pub members : List Member
    pub exprs : List TypedExpr
    pub typed : HasFields k denotes s vs exprs members
    pub tree : HasTree l (node.Apply operation.Record exprs) t tys

  pub record IsUnionTree (s : Scope) (l x tag : ℕ) (e : Expr) (t : TypedExpr) (tys : List Ty) : Type 0 where
    pub members : List Member
    pub place : ℕ
    pub content : Ty
    pub part : TypedExpr
    pub named : IsTypeNamed k x (ty.Uni members)
    pub has : Has k members tag place content
    pub typed : Types k denotes s e part (content ∷ [])
    pub tree : HasTree l (node.Apply (operation.Union place) (part ∷ [])) t tys

  pub record IsLetTree (s : Scope) (l : ℕ) (ds : List Def) (es : List Expr) (t : TypedExpr) (tys : List Ty) : Type 0 where
    pub after : Scope
    pub values : List (List TypedExpr)
    pub made : List Ty
    pub exprs : List TypedExpr
    pub defines : Defines k denotes s ds values made after
    pub typed : AreTyped k denotes after es exprs tys
    pub tree : HasTree l (node.Let values exprs) t tys

  pub record IsIfTree (s : Scope) (l : ℕ) (c : Expr) (es fs : List Expr) (t : TypedExpr) (tys : List Ty) : Type 0 where
    pub test : TypedExpr
    pub yes : List TypedExpr
    pub no_exprs : List TypedExpr
    pub typed_test : Types k denotes s c test (ty.Bool ∷ [])
    pub typed_yes : AreTyped k denotes s es yes tys
    pub typed_no : AreTyped k denotes s fs no_exprs tys
    pub tree : HasTree l (node.If (test ∷ []) yes no_exprs) t tys

  pub record IsTagCaseTree (s : Scope) (l : ℕ) (x : Option ℕ) (e : Expr) (arms : List Arm) (other : Option (List Expr)) (t : TypedExpr) (tys : List Ty) : Type 0 where
    pub members : List Member
    pub part : TypedExpr
    pub typed_arms : List (List TypedExpr)
    pub last : List (List TypedExpr)
    pub tags : List (List ℕ)
    pub choices : List Choice
    pub typed : Types k denotes s e part (ty.Uni members ∷ [])
    pub are_arms : AreArms k denotes s x members tys arms typed_arms tags
    pub otherwise : IsOtherwise k denotes s tys other last
    pub chooses : Chooses k tags members choices
    pub tree : HasTree l (node.Case (record { named = named_arms x arms; choices = choices; others = length arms }) (part ∷ []) (typed_arms ++ last)) t tys

  pub record IsInitialTree (s : Scope) (l : ℕ) (ds : List Def) (is_first is_until : Bool) (test : Expr) (es : List Def) (cs : List Clause) (t : TypedExpr) (tys : List Ty) : Type 0 where
    pub started : Scope
    pub turned : Scope
    pub first : List Ty
    pub later : List Ty
    pub values : List (List TypedExpr)
    pub renewed : List (List TypedExpr)
    pub part : TypedExpr
    pub clauses : List ClauseForm
    pub exprs : List TypedExpr
    pub defines : Defines k denotes s ds values first started
    pub typed_test : Types k denotes started test part (ty.Bool ∷ [])
    pub turns : Defines k denotes (in_turn (loop_of s ds first) (targets es) started) es renewed later turned
    pub results : AreClauses k denotes started cs clauses exprs tys
    pub tree : HasTree l (node.Initial (record { is_first = is_first; is_until = is_until; renewed = renewals (loop_of s ds first) s.height (targets es); clauses = clauses })
        values (part ∷ []) renewed exprs) t tys

  abbrev pub IsCallTree : Scope → ℕ → ℕ → List Expr → TypedExpr → List Ty → Type 0
  IsCallTree s l x es t tys = IsOwnCallTree s l x es t tys ⊎ IsBuiltInCallTree s l x es t tys

  abbrev pub IsArrayTreeIf : Scope → ℕ → Option Elements → TypedExpr → List Ty → Type 0
  IsArrayTreeIf s l None t tys = HasTree l (node.Apply operation.EmptyArray []) t tys
  IsArrayTreeIf s l (Some els) t tys = IsArrayTree s l (out-Elements els).lower (out-Elements els).values t tys

  abbrev pub IsLoopTree : Scope → ℕ → Loop-F ExprKind Loop Arm Clause Def Elements Expr FieldValue Generator Mask TagCase Turn → TypedExpr → List Ty → Type 0
  IsLoopTree s l (Loop-F.Product gs ds cs) t tys = Crosses k denotes s l gs ds cs t tys
  IsLoopTree s l (Loop-F.Initial ds turn cs) t tys = IsInitialTree s l ds (out-Turn turn).is_first (out-Turn turn).is_until (out-Turn turn).test (out-Turn turn).defs cs t tys

  abbrev pub InvertedTree : Scope → ℕ → ExprKind-F ExprKind Loop Arm Clause Def Elements Expr FieldValue Generator Mask TagCase Turn → TypedExpr → List Ty → Type 0
  InvertedTree s l (ExprKind-F.Constant c) t tys = HasTree l (node.Constant c) t tys
  InvertedTree s l (ExprKind-F.Name x) t tys = IsNameTree s.names l x t tys
  InvertedTree s l (ExprKind-F.Old x) t tys = IsNameTree s.olds l x t tys
  InvertedTree s l (ExprKind-F.Group e) t tys = IsGroupTree s l e t tys
  InvertedTree s l (ExprKind-F.Call x es) t tys = IsCallTree s l x es t tys
  InvertedTree s l (ExprKind-F.Convert c e) t tys = IsConvertTree s l c e t tys
  InvertedTree s l (ExprKind-F.ErrorOf w) t tys = HasTree l (node.Apply operation.Error []) t tys
  InvertedTree s l (ExprKind-F.IsError e) t tys = IsIsErrorTree s l e t tys
  InvertedTree s l (ExprKind-F.IsTag x e) t tys = IsIsTagTree s l x e t tys
  InvertedTree s l (ExprKind-F.Prefix o e) t tys = IsPrefixTree s l o e t tys
  InvertedTree s l (ExprKind-F.Binary o e f) t tys = IsBinaryTree s l o e f t tys
  InvertedTree s l (ExprKind-F.Select e i) t tys = IsSelectTree s l e i t tys
  InvertedTree s l (ExprKind-F.Update e i f) t tys = IsUpdateTree s l e i f t tys
  InvertedTree s l (ExprKind-F.Field e x) t tys = IsFieldTree s l e x t tys
  InvertedTree s l (ExprKind-F.Replace e vs) t tys = IsReplaceTree s l e vs t tys
  InvertedTree s l (ExprKind-F.Array x els) t tys = IsArrayTreeIf s l els t tys
  InvertedTree s l (ExprKind-F.Stream x es) t tys = IsStreamTree s l es t tys
  InvertedTree s l (ExprKind-F.Record x vs) t tys = IsRecordTree s l vs t tys
  InvertedTree s l (ExprKind-F.Union x tag e) t tys = IsUnionTree s l x tag e t tys
  InvertedTree s l (ExprKind-F.Let ds es) t tys = IsLetTree s l ds es t tys
  InvertedTree s l (ExprKind-F.If c es fs) t tys = IsIfTree s l c es fs t tys
  InvertedTree s l (ExprKind-F.TagCase c) t tys = IsTagCaseTree s l (out-TagCase c).name (out-TagCase c).subject (out-TagCase c).arms (out-TagCase c).otherwise t tys
  InvertedTree s l (ExprKind-F.For p) t tys = IsLoopTree s l (out-Loop p) t tys

  -- ---- parts of expressions

  -- an expression before others
  pub record IsFirstTree (s : Scope) (e : Expr) (es : List Expr) (ts : List TypedExpr) : Type 0 where
    pub first : TypedExpr
    pub made : List Ty
    pub trees : List TypedExpr
    pub others : List Ty
    pub typed : Types k denotes s e first made
    pub later : AreTyped k denotes s es trees others
    pub is : ts ≡ first ∷ trees

  abbrev pub TypedTreeIn : Scope → List Expr → List TypedExpr → Type 0
  TypedTreeIn s [] ts = ts ≡ []
  TypedTreeIn s (e ∷ es) ts = IsFirstTree s e es ts

  -- a field of a new record before others
  pub record IsNewFieldTree (s : Scope) (v : FieldValue) (vs : List FieldValue) (ts : List TypedExpr) : Type 0 where
    pub type : Ty
    pub first : TypedExpr
    pub trees : List TypedExpr
    pub others : List Member
    pub typed : Types k denotes s v.value first (type ∷ [])
    pub later : HasFields k denotes s vs trees others
    pub is : ts ≡ first ∷ trees

  abbrev pub FieldsTreeIn : Scope → List FieldValue → List TypedExpr → Type 0
  FieldsTreeIn s [] ts = ts ≡ []
  FieldsTreeIn s (v ∷ vs) ts = IsNewFieldTree s v vs ts

  -- a field that is changed, before others
  pub record IsChangedTree (s : Scope) (ms : List Member) (v : FieldValue) (vs : List FieldValue) (places : List ℕ) (ts : List TypedExpr) : Type 0 where
    pub place : ℕ
    pub type : Ty
    pub first : TypedExpr
    pub others : List ℕ
    pub trees : List TypedExpr
    pub has : Has k ms v.field.name place type
    pub typed : Types k denotes s v.value first (type ∷ [])
    pub later : Replaces k denotes s ms vs others trees
    pub is_places : places ≡ place ∷ others
    pub is_trees : ts ≡ first ∷ trees

  abbrev pub ReplacesTreeIn : Scope → List Member → List FieldValue → List ℕ → List TypedExpr → Type 0
  ReplacesTreeIn s ms [] places ts = (places ≡ []) × (ts ≡ [])
  ReplacesTreeIn s ms (v ∷ vs) places ts = IsChangedTree s ms v vs places ts

  -- a definition before others
  pub record IsDefinitionTree (s : Scope) (xs : List Target) (es : List Expr) (ds : List Def) (us : List (List TypedExpr)) (after : Scope) : Type 0 where
    pub exprs : List TypedExpr
    pub made : List Ty
    pub others : List Ty
    pub rest : List (List TypedExpr)
    pub typed : AreTyped k denotes s es exprs made
    pub later : Defines k denotes (define_all (names_in xs) made s) ds rest others after
    pub is : us ≡ exprs ∷ rest

  abbrev pub DefinesTreeIn : Scope → List Def → List (List TypedExpr) → Scope → Type 0
  DefinesTreeIn s [] us after = us ≡ []
  DefinesTreeIn s (d ∷ ds) us after = IsDefinitionTree s (out-Def d).targets (out-Def d).values ds us after

  -- what stands behind the last group of generators
  pub record IsBodyTree (s : Scope) (l : ℕ) (ds : List Def) (cs : List Clause) (sources : List Source) (bounds : List TypedExpr) (t : TypedExpr) (tys : List Ty) : Type 0 where
    pub inside : Scope
    pub made : List Ty
    pub values : List (List TypedExpr)
    pub clauses : List ClauseForm
    pub exprs : List TypedExpr
    pub defines : Defines k denotes s ds values made inside
    pub results : AreClauses k denotes inside cs clauses exprs tys
    pub tree : HasTree l (node.Product (record { sources = sources; clauses = clauses }) bounds values exprs) t tys

  pub record IsInnerLoopTree (s : Scope) (l : ℕ) (gs : List (List Generator)) (ds : List Def) (cs : List Clause) (sources : List Source) (bounds : List TypedExpr) (t : TypedExpr) (tys : List Ty) : Type 0 where
    pub part : TypedExpr
    pub inner : List Ty
    pub clauses : List ClauseForm
    pub crosses : Crosses k denotes s l gs ds cs part inner
    pub folds : Folds cs inner clauses tys
    pub tree : HasTree l (node.Product (record { sources = sources; clauses = clauses }) bounds [] (part ∷ [])) t tys

  abbrev pub IsInsideTree : Scope → ℕ → List (List Generator) → List Def → List Clause → List Source → List TypedExpr → TypedExpr → List Ty → Type 0
  IsInsideTree s l [] ds cs sources bounds t tys = IsBodyTree s l ds cs sources bounds t tys
  IsInsideTree s l (g ∷ gs) ds cs sources bounds t tys = IsInnerLoopTree s l (g ∷ gs) ds cs sources bounds t tys

  pub record IsCrossedTree (s : Scope) (l : ℕ) (g : List Generator) (gs : List (List Generator)) (ds : List Def) (cs : List Clause) (t : TypedExpr) (tys : List Ty) : Type 0 where
    pub names : List ℕ
    pub made : List Ty
    pub sources : List Source
    pub bounds : List TypedExpr
    pub generates : Generates k denotes s g sources bounds names made
    pub inside : IsInsideTree (define_all names made s) l gs ds cs sources bounds t tys

  abbrev pub CrossesTreeIn : Scope → ℕ → List (List Generator) → List Def → List Clause → TypedExpr → List Ty → Type 0
  CrossesTreeIn s l [] ds cs t tys = ⊥
  CrossesTreeIn s l (g ∷ gs) ds cs t tys = IsCrossedTree s l g gs ds cs t tys

  -- a generator before others
  pub record IsRangeTree (s : Scope) (e f : Expr) (gs : List Generator) (sources : List Source) (bounds : List TypedExpr) : Type 0 where
    pub from : TypedExpr
    pub to : TypedExpr
    pub names : List ℕ
    pub types : List Ty
    pub others : List Source
    pub rest : List TypedExpr
    pub typed_from : Types k denotes s e from (ty.Int ∷ [])
    pub typed_to : Types k denotes s f to (ty.Int ∷ [])
    pub later : Generates k denotes s gs others rest names types
    pub is_sources : sources ≡ source.Range ∷ others
    pub is_bounds : bounds ≡ from ∷ to ∷ rest

  pub record IsElementsTree (s : Scope) (e : Expr) (i : Option ℕ) (gs : List Generator) (sources : List Source) (bounds : List TypedExpr) : Type 0 where
    pub whole : Ty
    pub part : TypedExpr
    pub names : List ℕ
    pub types : List Ty
    pub others : List Source
    pub rest : List TypedExpr
    pub typed : Types k denotes s e part (whole ∷ [])
    pub later : Generates k denotes s gs others rest names types
    pub is_sources : sources ≡ source_of i ∷ others
    pub is_bounds : bounds ≡ part ∷ rest

  abbrev pub IsGeneratorTree : Scope → Expr → Option Expr → Option ℕ → List Generator → List Source → List TypedExpr → Type 0
  IsGeneratorTree s e (Some f) None gs sources bounds = IsRangeTree s e f gs sources bounds
  IsGeneratorTree s e (Some f) (Some i) gs sources bounds = ⊥
  IsGeneratorTree s e None i gs sources bounds = IsElementsTree s e i gs sources bounds

  abbrev pub GeneratesTreeIn : Scope → List Generator → List Source → List TypedExpr → Type 0
  GeneratesTreeIn s [] sources bounds = (sources ≡ []) × (bounds ≡ [])
  GeneratesTreeIn s (g ∷ gs) sources bounds = IsGeneratorTree s (out-Generator g).from (out-Generator g).to (out-Generator g).at gs sources bounds

  -- a clause before others
  pub record IsClauseTree (s : Scope) (kind : ClauseKind) (e : Expr) (m : Option Mask) (cs : List Clause) (forms : List ClauseForm) (ts : List TypedExpr) : Type 0 where
    pub value : Ty
    pub part : TypedExpr
    pub masks : List TypedExpr
    pub clauses : List ClauseForm
    pub exprs : List TypedExpr
    pub others : List Ty
    pub typed : Types k denotes s e part (value ∷ [])
    pub mask : IsMask k denotes s m masks
    pub later : AreClauses k denotes s cs clauses exprs others
    pub is_forms : forms ≡ clause_form kind value m ∷ clauses
    pub is_trees : ts ≡ part ∷ (masks ++ exprs)

  abbrev pub ClausesTreeIn : Scope → List Clause → List ClauseForm → List TypedExpr → Type 0
  ClausesTreeIn s [] forms ts = (forms ≡ []) × (ts ≡ [])
  ClausesTreeIn s (c ∷ cs) forms ts = IsClauseTree s (out-Clause c).kind (out-Clause c).value (out-Clause c).mask cs forms ts

  -- an arm before others
  pub record IsArmTree (s : Scope) (x : Option ℕ) (ms : List Member) (tys : List Ty) (names : List Named) (es : List Expr) (arms : List Arm) (us : List (List TypedExpr)) (tags : List (List ℕ)) : Type 0 where
    pub content : Ty
    pub exprs : List TypedExpr
    pub rest : List (List TypedExpr)
    pub others : List (List ℕ)
    pub contents : All (λ tag. IsTag k ms tag content) (names_of names)
    pub typed : AreTyped k denotes (with_content x content s) es exprs tys
    pub later : AreArms k denotes s x ms tys arms rest others
    pub is_trees : us ≡ exprs ∷ rest
    pub is_tags : tags ≡ names_of names ∷ others

  abbrev pub ArmsTreeIn : Scope → Option ℕ → List Member → List Ty → List Arm → List (List TypedExpr) → List (List ℕ) → Type 0
  ArmsTreeIn s x ms tys [] us tags = (us ≡ []) × (tags ≡ [])
  ArmsTreeIn s x ms tys (a ∷ arms) us tags = IsArmTree s x ms tys (out-Arm a).tags (out-Arm a).results arms us tags

  pub record IsTestedTree (s : Scope) (m : Mask) (ts : List TypedExpr) : Type 0 where
    pub part : TypedExpr
    pub typed : Types k denotes s m.test part (ty.Bool ∷ [])
    pub is : ts ≡ part ∷ []

  abbrev pub MaskTreeIn : Scope → Option Mask → List TypedExpr → Type 0
  MaskTreeIn s None ts = ts ≡ []
  MaskTreeIn s (Some m) ts = IsTestedTree s m ts
