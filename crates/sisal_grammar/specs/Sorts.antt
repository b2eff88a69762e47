-- The kinds of values of symbols, and what each action takes and gives.
use Rattle.std.specs.Prelude.{◌≡◌, ℕ, List, [], ◌∷◌, Option, Some, None, refl}
use Rattle.sisal_tree.specs.declared.unit.Named.{Named}
use Rattle.sisal_tree.specs.declared.unit.Written.{Written}
use Rattle.sisal_tree.specs.declared.unit.Field.{Field}
use Rattle.sisal_tree.specs.declared.unit.Header.{Header}
use Rattle.sisal_tree.specs.declared.unit.Item.{Item}
use Rattle.sisal_tree.specs.declared.expr.Expr.{Expr}
use Rattle.sisal_tree.specs.declared.expr.BinaryOperator.{BinaryOperator}
use Rattle.sisal_tree.specs.declared.expr.FieldValue.{FieldValue}
use Rattle.sisal_tree.specs.declared.expr.Elements.{Elements}
use Rattle.sisal_tree.specs.declared.expr.Def.{Def}
use Rattle.sisal_tree.specs.declared.expr.Target.{Target}
use Rattle.sisal_tree.specs.declared.expr.Arm.{Arm}
use Rattle.sisal_tree.specs.declared.expr.Loop.{Loop}
use Rattle.sisal_tree.specs.declared.expr.Generator.{Generator}
use Rattle.sisal_tree.specs.declared.expr.Turn.{Turn}
use Rattle.sisal_tree.specs.declared.expr.Clause.{Clause}
use Rattle.sisal_tree.specs.declared.expr.ClauseKind.{ClauseKind}
use Rattle.sisal_tree.specs.declared.expr.Reduction.{Reduction}
use Rattle.sisal_tree.specs.declared.expr.Mask.{Mask}
use Rattle.sisal_grammar.specs.declared.action.Action.{Action}
use Rattle.sisal_grammar.specs.declared.action.Action.TheVariants as action
use Rattle.sisal_grammar.specs.declared.value.Value.{Value}
use Rattle.sisal_grammar.specs.declared.value.Value.TheVariants as value
use Rattle.sisal_grammar.specs.declared.value.Placed.{Placed}
use Rattle.sisal_grammar.specs.declared.value.Outline.{Outline}
use Rattle.sisal_grammar.specs.declared.value.Selector.{Selector}
use Rattle.sisal_grammar.specs.declared.value.Bracket.{Bracket}
use Rattle.sisal_grammar.specs.declared.value.Subject.{Subject}
use Rattle.sisal_grammar.specs.declared.value.SubjectRest.{SubjectRest}
use Rattle.sisal_grammar.specs.declared.value.Test.{Test}

-- the kinds of values
pub data Sort : Type 0 where
  a_token : Sort
  nothing : Sort
  an_outline : Sort
  names : Sort
  an_item : Sort
  items : Sort
  a_type : Sort
  types : Sort
  a_field : Sort
  fields : Sort
  a_header : Sort
  an_expr : Sort
  exprs : Sort
  maybe_expr : Sort
  maybe_exprs : Sort
  tail : Sort
  a_post : Sort
  posts : Sort
  a_bracket : Sort
  a_value : Sort
  values : Sort
  maybe_name : Sort
  maybe_elements : Sort
  a_subject : Sort
  a_rest : Sort
  an_arm : Sort
  arms : Sort
  a_loop : Sort
  a_gen : Sort
  gens : Sort
  groups : Sort
  a_def : Sort
  defs : Sort
  a_target : Sort
  targets : Sort
  maybe_type : Sort
  a_turn : Sort
  a_test : Sort
  a_clause : Sort
  clauses : Sort
  a_kind : Sort
  a_reduction : Sort
  maybe_mask : Sort

abbrev pub Val : Sort → Type 0
Val a_token = Placed
Val nothing = Unit {0}
Val an_outline = Outline
Val names = List Named
Val an_item = Item
Val items = List Item
Val a_type = Written
Val types = List Written
Val a_field = Field
Val fields = List Field
Val a_header = Header
Val an_expr = Expr
Val exprs = List Expr
Val maybe_expr = Option Expr
Val maybe_exprs = Option (List Expr)
Val tail = List (BinaryOperator × Expr)
Val a_post = Selector
Val posts = List Selector
Val a_bracket = Bracket
Val a_value = FieldValue
Val values = List FieldValue
Val maybe_name = Option ℕ
Val maybe_elements = Option Elements
Val a_subject = Subject
Val a_rest = SubjectRest
Val an_arm = Arm
Val arms = List Arm
Val a_loop = Loop
Val a_gen = Generator
Val gens = List Generator
Val groups = List (List Generator)
Val a_def = Def
Val defs = List Def
Val a_target = Target
Val targets = List Target
Val maybe_type = Option Written
Val a_turn = Turn
Val a_test = Test
Val a_clause = Clause
Val clauses = List Clause
Val a_kind = ClauseKind
Val a_reduction = Reduction
Val maybe_mask = Option Mask

abbrev pub into : (k : Sort) → Val k → Value
into a_token v = value.AToken v
into nothing v = value.Nothing
into an_outline v = value.AnOutline v
into names v = value.Names v
into an_item v = value.AnItem v
into items v = value.Items v
into a_type v = value.AType v
into types v = value.Types v
into a_field v = value.AField v
into fields v = value.Fields v
into a_header v = value.AHeader v
into an_expr v = value.AnExpr v
into exprs v = value.Exprs v
into maybe_expr v = value.MaybeExpr v
into maybe_exprs v = value.MaybeExprs v
into tail v = value.Tail v
into a_post v = value.APost v
into posts v = value.Posts v
into a_bracket v = value.ABracket v
into a_value v = value.AValue v
into values v = value.Values v
into maybe_name v = value.MaybeName v
into maybe_elements v = value.MaybeElements v
into a_subject v = value.ASubject v
into a_rest v = value.ARest v
into an_arm v = value.AnArm v
into arms v = value.Arms v
into a_loop v = value.ALoop v
into a_gen v = value.AGen v
into gens v = value.Gens v
into groups v = value.Groups v
into a_def v = value.ADef v
into defs v = value.Defs v
into a_target v = value.ATarget v
into targets v = value.Targets v
into maybe_type v = value.MaybeType v
into a_turn v = value.ATurn v
into a_test v = value.ATest v
into a_clause v = value.AClause v
into clauses v = value.Clauses v
into a_kind v = value.AKind v
into a_reduction v = value.AReduction v
into maybe_mask v = value.MaybeMask v

abbrev pub out : (k : Sort) → Value → Option (Val k)
out a_token (value.AToken v) = Some v
out a_token _ = None
out nothing value.Nothing = Some tt
out nothing _ = None
out an_outline (value.AnOutline v) = Some v
out an_outline _ = None
out names (value.Names v) = Some v
out names _ = None
out an_item (value.AnItem v) = Some v
out an_item _ = None
out items (value.Items v) = Some v
out items _ = None
out a_type (value.AType v) = Some v
out a_type _ = None
out types (value.Types v) = Some v
out types _ = None
out a_field (value.AField v) = Some v
out a_field _ = None
out fields (value.Fields v) = Some v
out fields _ = None
out a_header (value.AHeader v) = Some v
out a_header _ = None
out an_expr (value.AnExpr v) = Some v
out an_expr _ = None
out exprs (value.Exprs v) = Some v
out exprs _ = None
out maybe_expr (value.MaybeExpr v) = Some v
out maybe_expr _ = None
out maybe_exprs (value.MaybeExprs v) = Some v
out maybe_exprs _ = None
out tail (value.Tail v) = Some v
out tail _ = None
out a_post (value.APost v) = Some v
out a_post _ = None
out posts (value.Posts v) = Some v
out posts _ = None
out a_bracket (value.ABracket v) = Some v
out a_bracket _ = None
out a_value (value.AValue v) = Some v
out a_value _ = None
out values (value.Values v) = Some v
out values _ = None
out maybe_name (value.MaybeName v) = Some v
out maybe_name _ = None
out maybe_elements (value.MaybeElements v) = Some v
out maybe_elements _ = None
out a_subject (value.ASubject v) = Some v
out a_subject _ = None
out a_rest (value.ARest v) = Some v
out a_rest _ = None
out an_arm (value.AnArm v) = Some v
out an_arm _ = None
out arms (value.Arms v) = Some v
out arms _ = None
out a_loop (value.ALoop v) = Some v
out a_loop _ = None
out a_gen (value.AGen v) = Some v
out a_gen _ = None
out gens (value.Gens v) = Some v
out gens _ = None
out groups (value.Groups v) = Some v
out groups _ = None
out a_def (value.ADef v) = Some v
out a_def _ = None
out defs (value.Defs v) = Some v
out defs _ = None
out a_target (value.ATarget v) = Some v
out a_target _ = None
out targets (value.Targets v) = Some v
out targets _ = None
out maybe_type (value.MaybeType v) = Some v
out maybe_type _ = None
out a_turn (value.ATurn v) = Some v
out a_turn _ = None
out a_test (value.ATest v) = Some v
out a_test _ = None
out a_clause (value.AClause v) = Some v
out a_clause _ = None
out clauses (value.Clauses v) = Some v
out clauses _ = None
out a_kind (value.AKind v) = Some v
out a_kind _ = None
out a_reduction (value.AReduction v) = Some v
out a_reduction _ = None
out maybe_mask (value.MaybeMask v) = Some v
out maybe_mask _ = None

pub out_into : (k : Sort) (v : Val k) → out k (into k v) ≡ Some v
out_into a_token v = refl
out_into nothing v = refl
out_into _ v = refl

-- what each action takes
abbrev pub args : Action → List Sort
args action.Whole = a_token ∷ a_token ∷ names ∷ nothing ∷ items ∷ []
args action.NoNames = []
args action.MoreNames = a_token ∷ a_token ∷ names ∷ []
args action.Absent = []
args action.Sign = a_token ∷ []
args action.NoItems = []
args action.MoreItems = an_item ∷ items ∷ []
args action.Alias = a_token ∷ a_token ∷ a_token ∷ a_type ∷ nothing ∷ []
args action.Forward = a_token ∷ a_token ∷ a_header ∷ nothing ∷ []
args action.Global = a_token ∷ a_header ∷ nothing ∷ []
args action.Defined = a_token ∷ a_header ∷ exprs ∷ a_token ∷ a_token ∷ nothing ∷ []
args action.Basic = a_token ∷ []
args action.Listed = a_token ∷ a_token ∷ a_type ∷ a_token ∷ []
args action.Fielded = a_token ∷ a_token ∷ a_field ∷ fields ∷ a_token ∷ []
args action.Tagged = a_token ∷ a_token ∷ nothing ∷ nothing ∷ a_token ∷ []
args action.NoFields = []
args action.SemiFields = a_token ∷ fields ∷ []
args action.MoreFields = a_field ∷ fields ∷ []
args action.OneField = a_token ∷ names ∷ a_token ∷ a_type ∷ []
args action.SemiTags = a_token ∷ nothing ∷ []
args action.MoreTags = nothing ∷ nothing ∷ []
args action.OneTag = a_token ∷ names ∷ nothing ∷ []
args action.TypedTag = a_token ∷ a_type ∷ []
args action.OneHeader = a_token ∷ a_token ∷ fields ∷ a_token ∷ a_type ∷ types ∷ a_token ∷ []
args action.NoTypes = []
args action.MoreTypes = a_token ∷ a_type ∷ types ∷ []
args action.Exprs = an_expr ∷ exprs ∷ []
args action.NoExprs = []
args action.MoreExprs = a_token ∷ an_expr ∷ exprs ∷ []
args action.SameExprs = exprs ∷ []
args action.Chain = an_expr ∷ tail ∷ []
args action.NoTail = []
args action.MoreTail = a_token ∷ an_expr ∷ tail ∷ []
args action.Prefix = a_token ∷ an_expr ∷ []
args action.SameExpr = an_expr ∷ []
args action.OneTail = a_token ∷ an_expr ∷ []
args action.Posted = an_expr ∷ posts ∷ []
args action.NoPosts = []
args action.MorePosts = a_post ∷ posts ∷ []
args action.Bracket = a_token ∷ an_expr ∷ a_bracket ∷ []
args action.Dot = a_token ∷ a_token ∷ []
args action.Replaced = a_token ∷ a_token ∷ a_value ∷ values ∷ a_token ∷ []
args action.CloseBracket = a_token ∷ []
args action.MoreBracket = a_token ∷ an_expr ∷ exprs ∷ a_token ∷ []
args action.ColonBracket = a_token ∷ an_expr ∷ a_token ∷ []
args action.OneValue = a_token ∷ a_token ∷ an_expr ∷ []
args action.NoValues = []
args action.SemiValues = a_token ∷ values ∷ []
args action.MoreValues = a_value ∷ values ∷ []
args action.NameOrCall = a_token ∷ maybe_exprs ∷ []
args action.NoCall = []
args action.Call = a_token ∷ exprs ∷ a_token ∷ []
args action.Literal = a_token ∷ []
args action.Old = a_token ∷ a_token ∷ []
args action.Convert = a_token ∷ a_token ∷ an_expr ∷ a_token ∷ []
args action.Group = a_token ∷ an_expr ∷ a_token ∷ []
args action.ErrorOf = a_token ∷ a_token ∷ a_type ∷ a_token ∷ []
args action.Is = a_token ∷ maybe_name ∷ a_token ∷ an_expr ∷ a_token ∷ []
args action.Array = a_token ∷ maybe_name ∷ a_token ∷ maybe_elements ∷ a_token ∷ []
args action.Stream = a_token ∷ maybe_name ∷ a_token ∷ exprs ∷ a_token ∷ []
args action.Record = a_token ∷ maybe_name ∷ a_token ∷ a_value ∷ values ∷ a_token ∷ []
args action.Union = a_token ∷ a_token ∷ a_token ∷ a_token ∷ maybe_expr ∷ a_token ∷ []
args action.Let = a_token ∷ defs ∷ a_token ∷ exprs ∷ a_token ∷ a_token ∷ []
args action.If = a_token ∷ an_expr ∷ a_token ∷ exprs ∷ exprs ∷ a_token ∷ a_token ∷ []
args action.Case = a_token ∷ a_subject ∷ an_arm ∷ arms ∷ maybe_exprs ∷ a_token ∷ a_token ∷ []
args action.For = a_token ∷ a_loop ∷ a_token ∷ a_token ∷ []
args action.WordName = a_token ∷ []
args action.AName = a_token ∷ []
args action.NoName = []
args action.NoElements = []
args action.SomeElements = an_expr ∷ a_token ∷ exprs ∷ []
args action.NoExpr = []
args action.SomeExpr = a_token ∷ an_expr ∷ []
args action.ElseIf = a_token ∷ an_expr ∷ a_token ∷ exprs ∷ exprs ∷ []
args action.Else = a_token ∷ exprs ∷ []
args action.NameSubject = a_token ∷ a_rest ∷ []
args action.OtherSubject = an_expr ∷ []
args action.Bound = a_token ∷ an_expr ∷ []
args action.Rest = maybe_exprs ∷ posts ∷ tail ∷ tail ∷ tail ∷ tail ∷ tail ∷ tail ∷ []
args action.NoArms = []
args action.MoreArms = an_arm ∷ arms ∷ []
args action.OneArm = a_token ∷ a_token ∷ names ∷ a_token ∷ exprs ∷ []
args action.Otherwise = a_token ∷ a_token ∷ exprs ∷ []
args action.Product = gens ∷ groups ∷ defs ∷ a_token ∷ a_clause ∷ clauses ∷ []
args action.Initial = a_token ∷ defs ∷ a_turn ∷ a_token ∷ a_clause ∷ clauses ∷ []
args action.NoGroups = []
args action.MoreGroups = a_token ∷ gens ∷ groups ∷ []
args action.Gens = a_gen ∷ gens ∷ []
args action.NoGens = []
args action.MoreGens = a_token ∷ a_gen ∷ gens ∷ []
args action.OneGen = a_token ∷ a_token ∷ an_expr ∷ maybe_expr ∷ maybe_name ∷ []
args action.AtName = a_token ∷ a_token ∷ []
args action.NoDefs = []
args action.SameDefs = defs ∷ []
args action.Defs = a_def ∷ defs ∷ []
args action.SemiDefs = a_token ∷ defs ∷ []
args action.OneDef = a_target ∷ targets ∷ a_token ∷ exprs ∷ []
args action.NoTargets = []
args action.MoreTargets = a_token ∷ a_target ∷ targets ∷ []
args action.OneTarget = a_token ∷ maybe_type ∷ []
args action.NoType = []
args action.SomeType = a_token ∷ a_type ∷ []
args action.TestFirst = a_test ∷ a_token ∷ defs ∷ []
args action.TestLast = a_token ∷ defs ∷ a_test ∷ []
args action.OneTest = a_token ∷ an_expr ∷ []
args action.NoClauses = []
args action.MoreClauses = a_clause ∷ clauses ∷ []
args action.Gathered = a_token ∷ a_token ∷ an_expr ∷ maybe_mask ∷ []
args action.Valued = a_token ∷ a_token ∷ a_kind ∷ an_expr ∷ maybe_mask ∷ []
args action.NoFold = []
args action.PlainFold = a_reduction ∷ []
args action.Directed = a_token ∷ a_reduction ∷ []
args action.Reduced = a_token ∷ []
args action.NoMask = []
args action.SomeMask = a_token ∷ an_expr ∷ []

-- what each action gives
abbrev pub gives : Action → Sort
gives action.Whole = an_outline
gives action.NoNames = names
gives action.MoreNames = names
gives action.Absent = nothing
gives action.Sign = nothing
gives action.NoItems = items
gives action.MoreItems = items
gives action.Alias = an_item
gives action.Forward = an_item
gives action.Global = an_item
gives action.Defined = an_item
gives action.Basic = a_type
gives action.Listed = a_type
gives action.Fielded = a_type
gives action.Tagged = a_type
gives action.NoFields = fields
gives action.SemiFields = fields
gives action.MoreFields = fields
gives action.OneField = a_field
gives action.SemiTags = nothing
gives action.MoreTags = nothing
gives action.OneTag = nothing
gives action.TypedTag = nothing
gives action.OneHeader = a_header
gives action.NoTypes = types
gives action.MoreTypes = types
gives action.Exprs = exprs
gives action.NoExprs = exprs
gives action.MoreExprs = exprs
gives action.SameExprs = exprs
gives action.Chain = an_expr
gives action.NoTail = tail
gives action.MoreTail = tail
gives action.Prefix = an_expr
gives action.SameExpr = an_expr
gives action.OneTail = tail
gives action.Posted = an_expr
gives action.NoPosts = posts
gives action.MorePosts = posts
gives action.Bracket = a_post
gives action.Dot = a_post
gives action.Replaced = a_post
gives action.CloseBracket = a_bracket
gives action.MoreBracket = a_bracket
gives action.ColonBracket = a_bracket
gives action.OneValue = a_value
gives action.NoValues = values
gives action.SemiValues = values
gives action.MoreValues = values
gives action.NameOrCall = an_expr
gives action.NoCall = maybe_exprs
gives action.Call = maybe_exprs
gives action.Literal = an_expr
gives action.Old = an_expr
gives action.Convert = an_expr
gives action.Group = an_expr
gives action.ErrorOf = an_expr
gives action.Is = an_expr
gives action.Array = an_expr
gives action.Stream = an_expr
gives action.Record = an_expr
gives action.Union = an_expr
gives action.Let = an_expr
gives action.If = an_expr
gives action.Case = an_expr
gives action.For = an_expr
gives action.WordName = maybe_name
gives action.AName = maybe_name
gives action.NoName = maybe_name
gives action.NoElements = maybe_elements
gives action.SomeElements = maybe_elements
gives action.NoExpr = maybe_expr
gives action.SomeExpr = maybe_expr
gives action.ElseIf = exprs
gives action.Else = exprs
gives action.NameSubject = a_subject
gives action.OtherSubject = a_subject
gives action.Bound = a_rest
gives action.Rest = a_rest
gives action.NoArms = arms
gives action.MoreArms = arms
gives action.OneArm = an_arm
gives action.Otherwise = maybe_exprs
gives action.Product = a_loop
gives action.Initial = a_loop
gives action.NoGroups = groups
gives action.MoreGroups = groups
gives action.Gens = gens
gives action.NoGens = gens
gives action.MoreGens = gens
gives action.OneGen = a_gen
gives action.AtName = maybe_name
gives action.NoDefs = defs
gives action.SameDefs = defs
gives action.Defs = defs
gives action.SemiDefs = defs
gives action.OneDef = a_def
gives action.NoTargets = targets
gives action.MoreTargets = targets
gives action.OneTarget = a_target
gives action.NoType = maybe_type
gives action.SomeType = maybe_type
gives action.TestFirst = a_turn
gives action.TestLast = a_turn
gives action.OneTest = a_test
gives action.NoClauses = clauses
gives action.MoreClauses = clauses
gives action.Gathered = a_clause
gives action.Valued = a_clause
gives action.NoFold = a_kind
gives action.PlainFold = a_kind
gives action.Directed = a_kind
gives action.Reduced = a_reduction
gives action.NoMask = maybe_mask
gives action.SomeMask = maybe_mask
