-- What the typing of an expression must consist of, by the form of the expression: the typing rules (typed_tree/specs/Typing)
-- read from the conclusion to the premises. The types of the program by number may be those of another table.
use Rattle.std.specs.Prelude.{◌≡◌, ◌⊎◌, ℕ, List, [], ◌∷◌, ◌++◌, map, flat_map, Option, Some, None, All}
use Rattle.name_scope.specs.Newest.{newest}
use Rattle.flow_value.specs.declared.ty.Ty.{Ty}
use Rattle.flow_value.specs.declared.ty.Ty.TheVariants as ty
use Rattle.type_table.specs.declared.form.Form.{Form}
use Rattle.sisal_tree.specs.declared.unit.Named.{Named}
use Rattle.sisal_tree.specs.declared.unit.Written.{Written}
use Rattle.sisal_tree.specs.declared.expr.Expr.{Expr}
use Rattle.sisal_tree.specs.declared.expr.ExprKind.{ExprKind}
use Rattle.sisal_tree.specs.declared.expr.ExprKind.TheOpen.{ExprKind-F, Loop-F}
use Rattle.sisal_tree.specs.declared.expr.ExprKind.TheViews.{out-Loop}
use Rattle.sisal_tree.specs.declared.expr.Constant.{Constant}
use Rattle.sisal_tree.specs.declared.expr.Scalar.{Scalar}
use Rattle.sisal_tree.specs.declared.expr.PrefixOperator.{PrefixOperator}
use Rattle.sisal_tree.specs.declared.expr.BinaryOperator.{BinaryOperator}
use Rattle.sisal_tree.specs.declared.expr.ClauseKind.{ClauseKind}
use Rattle.sisal_tree.specs.declared.expr.FieldValue.{FieldValue}
use Rattle.sisal_tree.specs.declared.expr.Elements.{Elements, out-Elements}
use Rattle.sisal_tree.specs.declared.expr.Def.{Def, out-Def}
use Rattle.sisal_tree.specs.declared.expr.Target.{Target}
use Rattle.sisal_tree.specs.declared.expr.TagCase.{TagCase, out-TagCase}
use Rattle.sisal_tree.specs.declared.expr.Arm.{Arm, out-Arm}
use Rattle.sisal_tree.specs.declared.expr.Loop.{Loop}
use Rattle.sisal_tree.specs.declared.expr.Generator.{Generator, out-Generator}
use Rattle.sisal_tree.specs.declared.expr.Turn.{Turn, out-Turn}
use Rattle.sisal_tree.specs.declared.expr.Clause.{Clause, out-Clause}
use Rattle.sisal_tree.specs.declared.expr.Mask.{Mask}
use Rattle.typed_tree.specs.declared.built_in.BuiltIn.{BuiltIn}
use Rattle.typed_tree.specs.declared.expr.TypedExpr.{TypedExpr}
use Rattle.typed_tree.specs.declared.expr.Source.{Source}
use Rattle.typed_tree.specs.declared.expr.ClauseForm.{ClauseForm}
use Rattle.typed_tree.specs.Scopes.{Meaning, At, Later, Scope, define_all, targets, AreDistinct, in_turn, KeepTypes}
use Rattle.typed_tree.specs.Types.{Member, IsSequence, IsShallow, constant_type, scalar_type, IsConverted, prefix_type, AreOperands, binary_type, Gives, Makes}
use Rattle.typed_tree.specs.Typing.{Signature, Known, IsSpelled, IsFunction, IsBuiltIn, IsTypeNamed, IsNamedType, Has, IsTag, names_of, AreAllNamed, AreTargets, names_in, loop_of, with_content, Folds, Types, AreTyped, Replaces, HasFields, Defines, Crosses, Generates, AreClauses, IsMask, AreArms, IsOtherwise}
use Rattle.typing_unique.specs.Fair.{IsProper}

-- the same with another table of types
abbrev pub at_table : Known → List Form → Known
at_table k forms = record { forms = forms; spellings = k.spellings; types = k.types; functions = k.functions }

-- ---- names in force

-- the type of a name has no field or tag twice
abbrev pub IsProperMeaning : Meaning → Type 0
IsProperMeaning (At level a) = IsProper a
IsProperMeaning Later = Unit {0}

abbrev pub AreProperNames : List (ℕ × Meaning) → Type 0
AreProperNames [] = Unit {0}
AreProperNames (n ∷ ns) = IsProperMeaning n.1 × AreProperNames ns

pub record IsProperScope (s : Scope) : Type 0 where
  pub names : AreProperNames s.names
  pub olds : AreProperNames s.olds

-- ---- forms of expressions

pub record IsConstant (c : Constant) (tys : List Ty) : Type 0 where
  pub types : tys ≡ constant_type c ∷ []

-- a name that is in force, or after `old`
pub record IsName (names : List (ℕ × Meaning)) (x : ℕ) (tys : List Ty) : Type 0 where
  pub level : ℕ
  pub type : Ty
  pub there : newest x names ≡ Some (At level type)
  pub types : tys ≡ type ∷ []

pub record IsErrorOf (denotes : Written → Ty → Type 0) (w : Written) (tys : List Ty) : Type 0 where
  pub type : Ty
  pub denoted : denotes w type
  pub types : tys ≡ type ∷ []

pub record IsEmptyArray (k : Known) (x : Option ℕ) (tys : List Ty) : Type 0 where
  pub name : ℕ
  pub element : Ty
  pub is_name : x ≡ Some name
  pub named : IsTypeNamed k name (ty.Arr element)
  pub types : tys ≡ ty.Arr element ∷ []

pub record IsEmptyStream (k : Known) (x : Option ℕ) (es : List Expr) (tys : List Ty) : Type 0 where
  pub name : ℕ
  pub element : Ty
  pub is_name : x ≡ Some name
  pub is_empty : es ≡ []
  pub named : IsTypeNamed k name (ty.Stream element)
  pub types : tys ≡ ty.Stream element ∷ []

-- the index of an element
abbrev pub index_names : Option ℕ → List ℕ
index_names None = []
index_names (Some i) = i ∷ []

abbrev pub index_types : Option ℕ → List Ty
index_types None = []
index_types (Some i) = ty.Int ∷ []

module _ (k : Known) (forms : List Form) (denotes : Written → Ty → Type 0) where
  abbrev pub TypesAt : Scope → Expr → TypedExpr → List Ty → Type 0
  TypesAt s e t tys = Types (at_table k forms) denotes s e t tys

  abbrev pub AreTypedAt : Scope → List Expr → List TypedExpr → List Ty → Type 0
  AreTypedAt s es ts tys = AreTyped (at_table k forms) denotes s es ts tys

  abbrev pub DefinesAt : Scope → List Def → List (List TypedExpr) → List Ty → Scope → Type 0
  DefinesAt s ds us tys after = Defines (at_table k forms) denotes s ds us tys after

  pub record IsGroup (s : Scope) (e : Expr) (tys : List Ty) : Type 0 where
    pub tree : TypedExpr
    pub typed : TypesAt s e tree tys

  -- the call of a function of the program
  pub record IsOwnCall (s : Scope) (x : ℕ) (es : List Expr) (tys : List Ty) : Type 0 where
    pub number : ℕ
    pub function : Signature
    pub exprs : List TypedExpr
    pub there : IsFunction k x number function
    pub typed : AreTypedAt s es exprs function.params
    pub types : tys ≡ function.results

  pub record IsBuiltInCall (s : Scope) (x : ℕ) (es : List Expr) (tys : List Ty) : Type 0 where
    pub call : BuiltIn
    pub type : Ty
    pub exprs : List TypedExpr
    pub operands : List Ty
    pub there : IsBuiltIn k x call
    pub typed : AreTypedAt s es exprs operands
    pub gives : Gives call operands type
    pub shallow : IsShallow type
    pub types : tys ≡ type ∷ []

  pub record IsConvert (s : Scope) (c : Scalar) (e : Expr) (tys : List Ty) : Type 0 where
    pub type : Ty
    pub tree : TypedExpr
    pub typed : TypesAt s e tree (type ∷ [])
    pub converted : IsConverted c type
    pub types : tys ≡ scalar_type c ∷ []

  pub record IsIsError (s : Scope) (e : Expr) (tys : List Ty) : Type 0 where
    pub type : Ty
    pub tree : TypedExpr
    pub typed : TypesAt s e tree (type ∷ [])
    pub types : tys ≡ ty.Bool ∷ []

  pub record IsIsTag (s : Scope) (x : ℕ) (e : Expr) (tys : List Ty) : Type 0 where
    pub members : List Member
    pub place : ℕ
    pub content : Ty
    pub tree : TypedExpr
    pub typed : TypesAt s e tree (ty.Uni members ∷ [])
    pub has : Has k members x place content
    pub types : tys ≡ ty.Bool ∷ []

  pub record IsPrefix (s : Scope) (o : PrefixOperator) (e : Expr) (tys : List Ty) : Type 0 where
    pub tree : TypedExpr
    pub typed : TypesAt s e tree (prefix_type o ∷ [])
    pub types : tys ≡ prefix_type o ∷ []

  pub record IsBinary (s : Scope) (o : BinaryOperator) (e f : Expr) (tys : List Ty) : Type 0 where
    pub type : Ty
    pub left : TypedExpr
    pub right : TypedExpr
    pub typed_left : TypesAt s e left (type ∷ [])
    pub typed_right : TypesAt s f right (type ∷ [])
    pub operands : AreOperands o type
    pub types : tys ≡ binary_type o type ∷ []

  pub record IsSelect (s : Scope) (e i : Expr) (tys : List Ty) : Type 0 where
    pub element : Ty
    pub array : TypedExpr
    pub index : TypedExpr
    pub typed_array : TypesAt s e array (ty.Arr element ∷ [])
    pub typed_index : TypesAt s i index (ty.Int ∷ [])
    pub types : tys ≡ element ∷ []

  pub record IsUpdate (s : Scope) (e i f : Expr) (tys : List Ty) : Type 0 where
    pub element : Ty
    pub array : TypedExpr
    pub index : TypedExpr
    pub value : TypedExpr
    pub typed_array : TypesAt s e array (ty.Arr element ∷ [])
    pub typed_index : TypesAt s i index (ty.Int ∷ [])
    pub typed_value : TypesAt s f value (element ∷ [])
    pub types : tys ≡ ty.Arr element ∷ []

  pub record IsField (s : Scope) (e : Expr) (x : ℕ) (tys : List Ty) : Type 0 where
    pub members : List Member
    pub place : ℕ
    pub content : Ty
    pub tree : TypedExpr
    pub typed : TypesAt s e tree (ty.Rec members ∷ [])
    pub has : Has k members x place content
    pub types : tys ≡ content ∷ []

  pub record IsReplace (s : Scope) (e : Expr) (vs : List FieldValue) (tys : List Ty) : Type 0 where
    pub members : List Member
    pub tree : TypedExpr
    pub places : List ℕ
    pub exprs : List TypedExpr
    pub typed : TypesAt s e tree (ty.Rec members ∷ [])
    pub replaces : Replaces (at_table k forms) denotes s members vs places exprs
    pub distinct : AreDistinct (map (λ v. v.field.name) vs)
    pub types : tys ≡ ty.Rec members ∷ []

  pub record IsArray (s : Scope) (x : Option ℕ) (low : Expr) (es : List Expr) (tys : List Ty) : Type 0 where
    pub element : Ty
    pub others : List Ty
    pub bound : TypedExpr
    pub exprs : List TypedExpr
    pub lower : TypesAt s low bound (ty.Int ∷ [])
    pub typed : AreTypedAt s es exprs (element ∷ others)
    pub same : All (λ b. b ≡ element) others
    pub named : IsNamedType k x (ty.Arr element)
    pub shallow : IsShallow (ty.Arr element)
    pub types : tys ≡ ty.Arr element ∷ []

  pub record IsStream (s : Scope) (x : Option ℕ) (es : List Expr) (tys : List Ty) : Type 0 where
    pub element : Ty
    pub others : List Ty
    pub exprs : List TypedExpr
    pub typed : AreTypedAt s es exprs (element ∷ others)
    pub same : All (λ b. b ≡ element) others
    pub named : IsNamedType k x (ty.Stream element)
    pub shallow : IsShallow (ty.Stream element)
    pub types : tys ≡ ty.Stream element ∷ []

  pub record IsRecord (s : Scope) (x : Option ℕ) (vs : List FieldValue) (tys : List Ty) : Type 0 where
    pub members : List Member
    pub exprs : List TypedExpr
    pub typed : HasFields (at_table k forms) denotes s vs exprs members
    pub distinct : AreDistinct (map (λ v. v.field.name) vs)
    pub named : IsNamedType k x (ty.Rec members)
    pub shallow : IsShallow (ty.Rec members)
    pub types : tys ≡ ty.Rec members ∷ []

  pub record IsUnion (s : Scope) (x tag : ℕ) (e : Expr) (tys : List Ty) : Type 0 where
    pub members : List Member
    pub place : ℕ
    pub content : Ty
    pub tree : TypedExpr
    pub named : IsTypeNamed k x (ty.Uni members)
    pub has : Has k members tag place content
    pub typed : TypesAt s e tree (content ∷ [])
    pub types : tys ≡ ty.Uni members ∷ []

  pub record IsLet (s : Scope) (ds : List Def) (es : List Expr) (tys : List Ty) : Type 0 where
    pub after : Scope
    pub values : List (List TypedExpr)
    pub made : List Ty
    pub exprs : List TypedExpr
    pub defines : DefinesAt s ds values made after
    pub distinct : AreDistinct (targets ds)
    pub typed : AreTypedAt after es exprs tys

  pub record IsIf (s : Scope) (c : Expr) (es fs : List Expr) (tys : List Ty) : Type 0 where
    pub test : TypedExpr
    pub yes : List TypedExpr
    pub no_exprs : List TypedExpr
    pub typed_test : TypesAt s c test (ty.Bool ∷ [])
    pub typed_yes : AreTypedAt s es yes tys
    pub typed_no : AreTypedAt s fs no_exprs tys

  pub record IsTagCase (s : Scope) (x : Option ℕ) (e : Expr) (arms : List Arm) (other : Option (List Expr)) (tys : List Ty) : Type 0 where
    pub members : List Member
    pub tree : TypedExpr
    pub typed_arms : List (List TypedExpr)
    pub last : List (List TypedExpr)
    pub tags : List (List ℕ)
    pub typed : TypesAt s e tree (ty.Uni members ∷ [])
    pub are_arms : AreArms (at_table k forms) denotes s x members tys arms typed_arms tags
    pub distinct : AreDistinct (flat_map (λ names. names) tags)
    pub all_named : AreAllNamed k tags members other
    pub otherwise : IsOtherwise (at_table k forms) denotes s tys other last

  pub record IsInitial (s : Scope) (ds : List Def) (test : Expr) (es : List Def) (cs : List Clause) (tys : List Ty) : Type 0 where
    pub started : Scope
    pub turned : Scope
    pub first : List Ty
    pub later : List Ty
    pub values : List (List TypedExpr)
    pub renewed : List (List TypedExpr)
    pub tree : TypedExpr
    pub clauses : List ClauseForm
    pub exprs : List TypedExpr
    pub defines : DefinesAt s ds values first started
    pub distinct : AreDistinct (targets ds)
    pub typed_test : TypesAt started test tree (ty.Bool ∷ [])
    pub turns : DefinesAt (in_turn (loop_of s ds first) (targets es) started) es renewed later turned
    pub distinct_turn : AreDistinct (targets es)
    pub keeps : KeepTypes (loop_of s ds first) (targets es) later
    pub results : AreClauses (at_table k forms) denotes started cs clauses exprs tys

  pub record IsProduct (s : Scope) (l : ℕ) (gs : List (List Generator)) (ds : List Def) (cs : List Clause) (tys : List Ty) : Type 0 where
    pub tree : TypedExpr
    pub crosses : Crosses (at_table k forms) denotes s l gs ds cs tree tys

  abbrev pub IsCall : Scope → ℕ → List Expr → List Ty → Type 0
  IsCall s x es tys = IsOwnCall s x es tys ⊎ IsBuiltInCall s x es tys

  abbrev pub IsArrayIf : Scope → Option ℕ → Option Elements → List Ty → Type 0
  IsArrayIf s x None tys = IsEmptyArray k x tys
  IsArrayIf s x (Some els) tys = IsArray s x (out-Elements els).lower (out-Elements els).values tys

  abbrev pub IsStreamIf : Scope → Option ℕ → List Expr → List Ty → Type 0
  IsStreamIf s x es tys = IsEmptyStream k x es tys ⊎ IsStream s x es tys

  abbrev pub IsLoop : Scope → ℕ → Loop-F ExprKind Loop Arm Clause Def Elements Expr FieldValue Generator Mask TagCase Turn → List Ty → Type 0
  IsLoop s l (Loop-F.Product gs ds cs) tys = IsProduct s l gs ds cs tys
  IsLoop s l (Loop-F.Initial ds turn cs) tys = IsInitial s ds (out-Turn turn).test (out-Turn turn).defs cs tys

  abbrev pub Inverted : Scope → ℕ → ExprKind-F ExprKind Loop Arm Clause Def Elements Expr FieldValue Generator Mask TagCase Turn → List Ty → Type 0
  Inverted s l (ExprKind-F.Constant c) tys = IsConstant c tys
  Inverted s l (ExprKind-F.Name x) tys = IsName s.names x tys
  Inverted s l (ExprKind-F.Old x) tys = IsName s.olds x tys
  Inverted s l (ExprKind-F.Group e) tys = IsGroup s e tys
  Inverted s l (ExprKind-F.Call x es) tys = IsCall s x es tys
  Inverted s l (ExprKind-F.Convert c e) tys = IsConvert s c e tys
  Inverted s l (ExprKind-F.ErrorOf w) tys = IsErrorOf denotes w tys
  Inverted s l (ExprKind-F.IsError e) tys = IsIsError s e tys
  Inverted s l (ExprKind-F.IsTag x e) tys = IsIsTag s x e tys
  Inverted s l (ExprKind-F.Prefix o e) tys = IsPrefix s o e tys
  Inverted s l (ExprKind-F.Binary o e f) tys = IsBinary s o e f tys
  Inverted s l (ExprKind-F.Select e i) tys = IsSelect s e i tys
  Inverted s l (ExprKind-F.Update e i f) tys = IsUpdate s e i f tys
  Inverted s l (ExprKind-F.Field e x) tys = IsField s e x tys
  Inverted s l (ExprKind-F.Replace e vs) tys = IsReplace s e vs tys
  Inverted s l (ExprKind-F.Array x els) tys = IsArrayIf s x els tys
  Inverted s l (ExprKind-F.Stream x es) tys = IsStreamIf s x es tys
  Inverted s l (ExprKind-F.Record x vs) tys = IsRecord s x vs tys
  Inverted s l (ExprKind-F.Union x tag e) tys = IsUnion s x tag e tys
  Inverted s l (ExprKind-F.Let ds es) tys = IsLet s ds es tys
  Inverted s l (ExprKind-F.If c es fs) tys = IsIf s c es fs tys
  Inverted s l (ExprKind-F.TagCase c) tys = IsTagCase s (out-TagCase c).name (out-TagCase c).subject (out-TagCase c).arms (out-TagCase c).otherwise tys
  Inverted s l (ExprKind-F.For p) tys = IsLoop s l (out-Loop p) tys

  -- ---- parts of expressions

  -- a definition before others
  pub record IsDefinition (s : Scope) (xs : List Target) (es : List Expr) (ds : List Def) (us : List (List TypedExpr)) (tys : List Ty) (after : Scope) : Type 0 where
    pub exprs : List TypedExpr
    pub made : List Ty
    pub others : List Ty
    pub rest : List (List TypedExpr)
    pub typed : AreTypedAt s es exprs made
    pub declared : AreTargets denotes xs made
    pub later : DefinesAt (define_all (names_in xs) made s) ds rest others after
    pub types : tys ≡ made ++ others

  pub record IsNoDefinition (s : Scope) (tys : List Ty) (after : Scope) : Type 0 where
    pub types : tys ≡ []
    pub same : after ≡ s

  abbrev pub DefinesIn : Scope → List Def → List (List TypedExpr) → List Ty → Scope → Type 0
  DefinesIn s [] us tys after = IsNoDefinition s tys after
  DefinesIn s (d ∷ ds) us tys after = IsDefinition s (out-Def d).targets (out-Def d).values ds us tys after

  -- what stands behind the last group of generators
  pub record IsBody (s : Scope) (ds : List Def) (cs : List Clause) (tys : List Ty) : Type 0 where
    pub inside : Scope
    pub made : List Ty
    pub values : List (List TypedExpr)
    pub clauses : List ClauseForm
    pub exprs : List TypedExpr
    pub defines : DefinesAt s ds values made inside
    pub distinct : AreDistinct (targets ds)
    pub results : AreClauses (at_table k forms) denotes inside cs clauses exprs tys

  pub record IsInnerLoop (s : Scope) (l : ℕ) (gs : List (List Generator)) (ds : List Def) (cs : List Clause) (tys : List Ty) : Type 0 where
    pub tree : TypedExpr
    pub inner : List Ty
    pub clauses : List ClauseForm
    pub crosses : Crosses (at_table k forms) denotes s l gs ds cs tree inner
    pub folds : Folds cs inner clauses tys

  abbrev pub IsInside : Scope → ℕ → List (List Generator) → List Def → List Clause → List Ty → Type 0
  IsInside s l [] ds cs tys = IsBody s ds cs tys
  IsInside s l (g ∷ gs) ds cs tys = IsInnerLoop s l (g ∷ gs) ds cs tys

  pub record IsCrossed (s : Scope) (l : ℕ) (g : List Generator) (gs : List (List Generator)) (ds : List Def) (cs : List Clause) (tys : List Ty) : Type 0 where
    pub names : List ℕ
    pub made : List Ty
    pub sources : List Source
    pub bounds : List TypedExpr
    pub generates : Generates (at_table k forms) denotes s g sources bounds names made
    pub distinct : AreDistinct names
    pub inside : IsInside (define_all names made s) l gs ds cs tys

  abbrev pub CrossesIn : Scope → ℕ → List (List Generator) → List Def → List Clause → List Ty → Type 0
  CrossesIn s l [] ds cs tys = ⊥
  CrossesIn s l (g ∷ gs) ds cs tys = IsCrossed s l g gs ds cs tys

  -- a generator before others
  pub record IsRange (s : Scope) (n : Named) (e f : Expr) (gs : List Generator) (names : List ℕ) (tys : List Ty) : Type 0 where
    pub from : TypedExpr
    pub to : TypedExpr
    pub others : List ℕ
    pub types : List Ty
    pub sources : List Source
    pub bounds : List TypedExpr
    pub typed_from : TypesAt s e from (ty.Int ∷ [])
    pub typed_to : TypesAt s f to (ty.Int ∷ [])
    pub later : Generates (at_table k forms) denotes s gs sources bounds others types
    pub is_names : names ≡ n.name ∷ others
    pub is_types : tys ≡ ty.Int ∷ types

  pub record IsElements (s : Scope) (n : Named) (e : Expr) (i : Option ℕ) (gs : List Generator) (names : List ℕ) (tys : List Ty) : Type 0 where
    pub whole : Ty
    pub element : Ty
    pub tree : TypedExpr
    pub others : List ℕ
    pub types : List Ty
    pub sources : List Source
    pub bounds : List TypedExpr
    pub typed : TypesAt s e tree (whole ∷ [])
    pub sequence : IsSequence whole element
    pub later : Generates (at_table k forms) denotes s gs sources bounds others types
    pub is_names : names ≡ n.name ∷ (index_names i ++ others)
    pub is_types : tys ≡ element ∷ (index_types i ++ types)

  abbrev pub IsGenerator : Scope → Named → Expr → Option Expr → Option ℕ → List Generator → List ℕ → List Ty → Type 0
  IsGenerator s n e (Some f) None gs names tys = IsRange s n e f gs names tys
  IsGenerator s n e (Some f) (Some i) gs names tys = ⊥
  IsGenerator s n e None i gs names tys = IsElements s n e i gs names tys

  pub record IsNoGenerator (names : List ℕ) (tys : List Ty) : Type 0 where
    pub is_names : names ≡ []
    pub is_types : tys ≡ []

  abbrev pub GeneratesIn : Scope → List Generator → List ℕ → List Ty → Type 0
  GeneratesIn s [] names tys = IsNoGenerator names tys
  GeneratesIn s (g ∷ gs) names tys = IsGenerator s (out-Generator g).name (out-Generator g).from (out-Generator g).to (out-Generator g).at gs names tys

  -- a clause before others
  pub record IsClause (s : Scope) (kind : ClauseKind) (e : Expr) (m : Option Mask) (cs : List Clause) (tys : List Ty) : Type 0 where
    pub value : Ty
    pub made : Ty
    pub tree : TypedExpr
    pub masks : List TypedExpr
    pub clauses : List ClauseForm
    pub exprs : List TypedExpr
    pub others : List Ty
    pub typed : TypesAt s e tree (value ∷ [])
    pub makes : Makes kind value made
    pub shallow : IsShallow made
    pub mask : IsMask (at_table k forms) denotes s m masks
    pub later : AreClauses (at_table k forms) denotes s cs clauses exprs others
    pub types : tys ≡ made ∷ others

  abbrev pub ClausesIn : Scope → List Clause → List Ty → Type 0
  ClausesIn s [] tys = tys ≡ []
  ClausesIn s (c ∷ cs) tys = IsClause s (out-Clause c).kind (out-Clause c).value (out-Clause c).mask cs tys

  -- an arm before others
  pub record IsArm (s : Scope) (x : Option ℕ) (ms : List Member) (tys : List Ty) (names : List Named) (es : List Expr) (arms : List Arm) (tags : List (List ℕ)) : Type 0 where
    pub content : Ty
    pub exprs : List TypedExpr
    pub typed_arms : List (List TypedExpr)
    pub others : List (List ℕ)
    pub tagged : names ≡ [] → ⊥
    pub contents : All (λ tag. IsTag k ms tag content) (names_of names)
    pub typed : AreTypedAt (with_content x content s) es exprs tys
    pub later : AreArms (at_table k forms) denotes s x ms tys arms typed_arms others
    pub is_tags : tags ≡ names_of names ∷ others

  abbrev pub ArmsIn : Scope → Option ℕ → List Member → List Ty → List Arm → List (List ℕ) → Type 0
  ArmsIn s x ms tys [] tags = tags ≡ []
  ArmsIn s x ms tys (a ∷ arms) tags = IsArm s x ms tys (out-Arm a).tags (out-Arm a).results arms tags

  -- an expression before others
  pub record IsFirst (s : Scope) (e : Expr) (es : List Expr) (tys : List Ty) : Type 0 where
    pub tree : TypedExpr
    pub made : List Ty
    pub trees : List TypedExpr
    pub others : List Ty
    pub typed : TypesAt s e tree made
    pub later : AreTypedAt s es trees others
    pub types : tys ≡ made ++ others

  abbrev pub TypedIn : Scope → List Expr → List Ty → Type 0
  TypedIn s [] tys = tys ≡ []
  TypedIn s (e ∷ es) tys = IsFirst s e es tys

  -- a field of a new record before others
  pub record IsNewField (s : Scope) (v : FieldValue) (vs : List FieldValue) (ms : List Member) : Type 0 where
    pub spelling : List ℕ
    pub type : Ty
    pub tree : TypedExpr
    pub trees : List TypedExpr
    pub others : List Member
    pub spelled : IsSpelled k v.field.name spelling
    pub typed : TypesAt s v.value tree (type ∷ [])
    pub later : HasFields (at_table k forms) denotes s vs trees others
    pub members : ms ≡ (spelling, type) ∷ others

  abbrev pub FieldsIn : Scope → List FieldValue → List Member → Type 0
  FieldsIn s [] ms = ms ≡ []
  FieldsIn s (v ∷ vs) ms = IsNewField s v vs ms

  -- a field that is changed, before others
  pub record IsChanged (s : Scope) (ms : List Member) (v : FieldValue) (vs : List FieldValue) : Type 0 where
    pub place : ℕ
    pub type : Ty
    pub tree : TypedExpr
    pub places : List ℕ
    pub trees : List TypedExpr
    pub has : Has k ms v.field.name place type
    pub typed : TypesAt s v.value tree (type ∷ [])
    pub later : Replaces (at_table k forms) denotes s ms vs places trees

  abbrev pub ReplacesIn : Scope → List Member → List FieldValue → Type 0
  ReplacesIn s ms [] = Unit {0}
  ReplacesIn s ms (v ∷ vs) = IsChanged s ms v vs

  pub record IsTested (s : Scope) (m : Mask) : Type 0 where
    pub tree : TypedExpr
    pub typed : TypesAt s m.test tree (ty.Bool ∷ [])

  abbrev pub MaskIn : Scope → Option Mask → Type 0
  MaskIn s None = Unit {0}
  MaskIn s (Some m) = IsTested s m
