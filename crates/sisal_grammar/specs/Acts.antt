-- What each production makes of the values of its symbols.
use Rattle.std.specs.Prelude.{ℕ, ◌+◌, Bool, true, false, List, [], ◌∷◌, Option, Some, None, fold}
use Rattle.pushdown.specs.Meaning.{Vals, Meaning}
use Rattle.sisal_tree.specs.Kind.{Kind}
use Rattle.sisal_tree.specs.Kind.TheVariants as kind
use Rattle.sisal_tree.specs.Word.TheVariants as word
use Rattle.sisal_tree.specs.Sign.TheVariants as sign
use Rattle.sisal_tree.specs.declared.unit.Named.{Named}
use Rattle.sisal_tree.specs.declared.unit.Written.{Written}
use Rattle.sisal_tree.specs.declared.unit.Item.TheVariants as item
use Rattle.sisal_tree.specs.declared.unit.FunKind.TheVariants as fun
use Rattle.sisal_tree.specs.declared.expr.Expr.{Expr}
use Rattle.sisal_tree.specs.declared.expr.ExprKind.{ExprKind}
use Rattle.sisal_tree.specs.declared.expr.ExprKind.TheVariants as expr
use Rattle.sisal_tree.specs.declared.expr.Constant.{Constant}
use Rattle.sisal_tree.specs.declared.expr.Constant.TheVariants as constant
use Rattle.sisal_tree.specs.declared.expr.Scalar.{Scalar}
use Rattle.sisal_tree.specs.declared.expr.Scalar.TheVariants as scalar
use Rattle.sisal_tree.specs.declared.expr.PrefixOperator.{PrefixOperator}
use Rattle.sisal_tree.specs.declared.expr.PrefixOperator.TheVariants as prefix
use Rattle.sisal_tree.specs.declared.expr.BinaryOperator.{BinaryOperator}
use Rattle.sisal_tree.specs.declared.expr.BinaryOperator.TheVariants as binary
use Rattle.sisal_tree.specs.declared.expr.Arm.{Arm, roll-Arm}
use Rattle.sisal_tree.specs.declared.expr.TagCase.{TagCase, roll-TagCase}
use Rattle.sisal_tree.specs.declared.expr.Elements.{roll-Elements}
use Rattle.sisal_tree.specs.declared.expr.Def.{roll-Def}
use Rattle.sisal_tree.specs.declared.expr.Generator.{roll-Generator}
use Rattle.sisal_tree.specs.declared.expr.Turn.{roll-Turn}
use Rattle.sisal_tree.specs.declared.expr.Clause.{roll-Clause}
use Rattle.sisal_tree.specs.declared.expr.Loop.TheVariants as loop
use Rattle.sisal_tree.specs.declared.expr.ClauseKind.{ClauseKind}
use Rattle.sisal_tree.specs.declared.expr.ClauseKind.TheVariants as clause
use Rattle.sisal_tree.specs.declared.expr.Direction.{Direction}
use Rattle.sisal_tree.specs.declared.expr.Direction.TheVariants as direction
use Rattle.sisal_tree.specs.declared.expr.Reduction.{Reduction}
use Rattle.sisal_tree.specs.declared.expr.Reduction.TheVariants as reduction
use Rattle.sisal_grammar.specs.declared.action.Action.{Action}
use Rattle.sisal_grammar.specs.declared.action.Action.TheVariants as action
use Rattle.sisal_grammar.specs.declared.value.Value.{Value}
use Rattle.sisal_grammar.specs.declared.value.Placed.{Placed}
use Rattle.sisal_grammar.specs.declared.value.Selector.{Selector}
use Rattle.sisal_grammar.specs.declared.value.Selector.TheVariants as selector
use Rattle.sisal_grammar.specs.declared.value.Bracket.{Bracket}
use Rattle.sisal_grammar.specs.declared.value.Bracket.TheVariants as bracket
use Rattle.sisal_grammar.specs.declared.value.Subject.{Subject}
use Rattle.sisal_grammar.specs.declared.value.SubjectRest.{SubjectRest}
use Rattle.sisal_grammar.specs.declared.value.SubjectRest.TheVariants as more
use Rattle.sisal_grammar.specs.declared.value.ExprRest.{ExprRest}
use Rattle.sisal_grammar.specs.Classes.{class_of}
use Rattle.sisal_grammar.specs.Sorts.{Sort, a_token, Val, into, out, out_into, args, gives}

-- what a token says: its name, 0 where it is none
abbrev pub name_of : Kind → ℕ
name_of (kind.Id x) = x
name_of _ = 0

abbrev pub name_in : Placed → ℕ
name_in t = name_of t.kind

abbrev pub named : Placed → Named
named t = record { name = name_in t; line = t.line }

-- its constant, `nil` where it is none
abbrev pub constant_of : Kind → Constant
constant_of (kind.Number n) = constant.Integer n
constant_of (kind.Letter c) = constant.Letter c
constant_of (kind.Quoted s) = constant.Quoted s
constant_of (kind.Word word.WTrue) = constant.True
constant_of (kind.Word word.WFalse) = constant.False
constant_of _ = constant.Nil

-- its operator before an operand, `-` where it is none
abbrev pub prefix_of : Kind → PrefixOperator
prefix_of (kind.Sign sign.SNot) = prefix.Not
prefix_of _ = prefix.Negate

-- its operator between two operands, `|` where it is none
abbrev pub binary_of : Kind → BinaryOperator
binary_of (kind.Sign sign.SAnd) = binary.And
binary_of (kind.Sign sign.SEqual) = binary.Equal
binary_of (kind.Sign sign.SNotEqual) = binary.NotEqual
binary_of (kind.Sign sign.SLess) = binary.Less
binary_of (kind.Sign sign.SLessEqual) = binary.LessEqual
binary_of (kind.Sign sign.SGreater) = binary.Greater
binary_of (kind.Sign sign.SGreaterEqual) = binary.GreaterEqual
binary_of (kind.Sign sign.SCatenate) = binary.Catenate
binary_of (kind.Sign sign.SPlus) = binary.Plus
binary_of (kind.Sign sign.SMinus) = binary.Minus
binary_of (kind.Sign sign.STimes) = binary.Times
binary_of (kind.Sign sign.SDivide) = binary.Divide
binary_of _ = binary.Or

-- the type that it converts to, `integer` where it is none
abbrev pub scalar_of : Kind → Scalar
scalar_of (kind.Word word.WBoolean) = scalar.Boolean
scalar_of (kind.Word word.WCharacter) = scalar.Character
scalar_of _ = scalar.Integer

-- its way to group, `tree` where it is none
abbrev pub direction_of : Kind → Direction
direction_of (kind.Word word.WLeft) = direction.Left
direction_of (kind.Word word.WRight) = direction.Right
direction_of _ = direction.Tree

-- its reduction, `sum` where it is none
abbrev pub reduction_of : Kind → Reduction
reduction_of (kind.Word word.WProduct) = reduction.Product
reduction_of (kind.Word word.WLeast) = reduction.Least
reduction_of (kind.Word word.WGreatest) = reduction.Greatest
reduction_of (kind.Word word.WCatenate) = reduction.Catenate
reduction_of _ = reduction.Sum

-- whether it is `until`, and whether it is `unless`
abbrev pub is_until : Kind → Bool
is_until (kind.Word word.WUntil) = true
is_until _ = false

abbrev pub is_unless : Kind → Bool
is_unless (kind.Word word.WUnless) = true
is_unless _ = false

-- what is gathered: a stream where it is `stream`
abbrev pub gathered_of : Kind → ClauseKind
gathered_of (kind.Word word.WStream) = clause.Stream
gathered_of _ = clause.Array

-- an expression that begins on a line
abbrev pub at : ℕ → ExprKind → Expr
at l k = record { line = l; kind = k }

-- the tokens from one to another
abbrev pub span : Placed → Placed → Written
span t u = record { from = t.place; to = u.place + 1 }

-- operators of two operands group to the left
abbrev pub joined : Expr → BinaryOperator × Expr → Expr
joined a t = at a.line (expr.Binary t.0 a t.1)

abbrev pub chained : Expr → List (BinaryOperator × Expr) → Expr
chained a ts = fold joined a ts

-- `a[i, j]` is `a[i][j]`
abbrev pub selected : Expr → Expr → Expr
selected a i = at a.line (expr.Select a i)

abbrev pub followed : Expr → Selector → Expr
followed a (selector.At is) = fold selected a is
followed a (selector.Change i v) = at a.line (expr.Update a i v)
followed a (selector.Field x) = at a.line (expr.Field a x)
followed a (selector.Replace vs) = at a.line (expr.Replace a vs)

abbrev pub posted : Expr → List Selector → Expr
posted a ps = fold followed a ps

abbrev pub bracketed : Expr → Bracket → Selector
bracketed e (bracket.Further es) = selector.At (e ∷ es)
bracketed e (bracket.Colon v) = selector.Change e v

-- a name, or a call of what it names
abbrev pub called : Placed → Option (List Expr) → Expr
called t None = at t.line (expr.Name (name_in t))
called t (Some es) = at t.line (expr.Call (name_in t) es)

-- a test for the error value, or for a tag
abbrev pub asked : ℕ → Option ℕ → Expr → Expr
asked l None e = at l (expr.IsError e)
asked l (Some x) e = at l (expr.IsTag x e)

-- the content of a union's tag: `nil` where none is written
abbrev pub content : Placed → Option Expr → Expr
content t None = at t.line (expr.Constant constant.Nil)
content t (Some e) = e

-- an expression that begins with a name, of its parts from the innermost
abbrev pub rest_of : Placed → ExprRest → Expr
rest_of t r =
    chained (chained (chained (chained (chained (chained (posted (called t r.call) r.posts) r.factors) r.terms) r.parts) r.compared) r.all) r.any

abbrev pub subject_of : Placed → SubjectRest → Subject
subject_of t (more.Bound e) = record { name = Some (name_in t); expr = e }
subject_of t (more.Rest r) = record { name = None; expr = rest_of t r }

abbrev pub tag_case : Subject → List Arm → Option (List Expr) → TagCase
tag_case s arms others = roll-TagCase (record { name = s.name; subject = s.expr; arms = arms; otherwise = others })

abbrev pub act : (a : Action) → Vals Val (args a) → Val (gives a)
act action.Whole v = record { defines = named v.1.0 ∷ v.1.1.0; items = v.1.1.1.1.0 }
act action.NoNames v = []
act action.MoreNames v = named v.1.0 ∷ v.1.1.0
act action.Absent v = tt
act action.Sign v = tt
act action.NoItems v = []
act action.MoreItems v = v.0 ∷ v.1.0
act action.Alias v = item.Alias (record { line = v.0.line; name = name_in v.1.0; ty = v.1.1.1.0 })
act action.Forward v = item.Function (record { line = v.0.line; header = v.1.1.0; kind = fun.Forward })
act action.Global v = item.Function (record { line = v.0.line; header = v.1.0; kind = fun.Global })
act action.Defined v = item.Function (record { line = v.0.line; header = v.1.0; kind = fun.Defined v.1.1.0 })
act action.Basic v = span v.0 v.0
act action.Listed v = span v.0 v.1.1.1.0
act action.Fielded v = span v.0 v.1.1.1.1.0
act action.Tagged v = span v.0 v.1.1.1.1.0
act action.NoFields v = []
act action.SemiFields v = v.1.0
act action.MoreFields v = v.0 ∷ v.1.0
act action.OneField v = record { names = named v.0 ∷ v.1.0; ty = v.1.1.1.0 }
act action.SemiTags v = tt
act action.MoreTags v = tt
act action.OneTag v = tt
act action.TypedTag v = tt
act action.OneHeader v = record { name = named v.0; params = v.1.1.0; results = v.1.1.1.1.0 ∷ v.1.1.1.1.1.0 }
act action.NoTypes v = []
act action.MoreTypes v = v.1.0 ∷ v.1.1.0
act action.Exprs v = v.0 ∷ v.1.0
act action.NoExprs v = []
act action.MoreExprs v = v.1.0 ∷ v.1.1.0
act action.SameExprs v = v.0
act action.Chain v = chained v.0 v.1.0
act action.NoTail v = []
act action.MoreTail v = (binary_of v.0.kind, v.1.0) ∷ v.1.1.0
act action.OneTail v = (binary_of v.0.kind, v.1.0) ∷ []
act action.Prefix v = at v.0.line (expr.Prefix (prefix_of v.0.kind) v.1.0)
act action.SameExpr v = v.0
act action.Posted v = posted v.0 v.1.0
act action.NoPosts v = []
act action.MorePosts v = v.0 ∷ v.1.0
act action.Bracket v = bracketed v.1.0 v.1.1.0
act action.Dot v = selector.Field (name_in v.1.0)
act action.Replaced v = selector.Replace (v.1.1.0 ∷ v.1.1.1.0)
act action.CloseBracket v = bracket.Further []
act action.MoreBracket v = bracket.Further (v.1.0 ∷ v.1.1.0)
act action.ColonBracket v = bracket.Colon v.1.0
act action.OneValue v = record { field = named v.0; value = v.1.1.0 }
act action.NoValues v = []
act action.SemiValues v = v.1.0
act action.MoreValues v = v.0 ∷ v.1.0
act action.NameOrCall v = called v.0 v.1.0
act action.NoCall v = None
act action.Call v = Some v.1.0
act action.Literal v = at v.0.line (expr.Constant (constant_of v.0.kind))
act action.Old v = at v.0.line (expr.Old (name_in v.1.0))
act action.Convert v = at v.0.line (expr.Convert (scalar_of v.0.kind) v.1.1.0)
act action.Group v = at v.0.line (expr.Group v.1.0)
act action.ErrorOf v = at v.0.line (expr.ErrorOf v.1.1.0)
act action.Is v = asked v.0.line v.1.0 v.1.1.1.0
act action.Array v = at v.0.line (expr.Array v.1.0 v.1.1.1.0)
act action.Stream v = at v.0.line (expr.Stream v.1.0 v.1.1.1.0)
act action.Record v = at v.0.line (expr.Record v.1.0 (v.1.1.1.0 ∷ v.1.1.1.1.0))
act action.Union v = at v.0.line (expr.Union (name_in v.1.0) (name_in v.1.1.1.0) (content v.1.1.1.0 v.1.1.1.1.0))
act action.Let v = at v.0.line (expr.Let v.1.0 v.1.1.1.0)
act action.If v = at v.0.line (expr.If v.1.0 v.1.1.1.0 v.1.1.1.1.0)
act action.Case v = at v.0.line (expr.TagCase (tag_case v.1.0 (v.1.1.0 ∷ v.1.1.1.0) v.1.1.1.1.0))
act action.For v = at v.0.line (expr.For v.1.0)
act action.WordName v = None
act action.AName v = Some (name_in v.0)
act action.NoName v = None
act action.NoElements v = None
act action.SomeElements v = Some (roll-Elements (record { lower = v.0; values = v.1.1.0 }))
act action.NoExpr v = None
act action.SomeExpr v = Some v.1.0
act action.ElseIf v = at v.0.line (expr.If v.1.0 v.1.1.1.0 v.1.1.1.1.0) ∷ []
act action.Else v = v.1.0
act action.NameSubject v = subject_of v.0 v.1.0
act action.OtherSubject v = record { name = None; expr = v.0 }
act action.Bound v = more.Bound v.1.0
act action.Rest v = more.Rest (record {
  call = v.0;
  posts = v.1.0;
  factors = v.1.1.0;
  terms = v.1.1.1.0;
  parts = v.1.1.1.1.0;
  compared = v.1.1.1.1.1.0;
  all = v.1.1.1.1.1.1.0;
  any = v.1.1.1.1.1.1.1.0;
})
act action.NoArms v = []
act action.MoreArms v = v.0 ∷ v.1.0
act action.OneArm v = roll-Arm (record { line = v.0.line; tags = named v.1.0 ∷ v.1.1.0; results = v.1.1.1.1.0 })
act action.Otherwise v = Some v.1.1.0
act action.Product v = loop.Product (v.0 ∷ v.1.0) v.1.1.0 (v.1.1.1.1.0 ∷ v.1.1.1.1.1.0)
act action.Initial v = loop.Initial v.1.0 v.1.1.0 (v.1.1.1.1.0 ∷ v.1.1.1.1.1.0)
act action.NoGroups v = []
act action.MoreGroups v = v.1.0 ∷ v.1.1.0
act action.Gens v = v.0 ∷ v.1.0
act action.NoGens v = []
act action.MoreGens v = v.1.0 ∷ v.1.1.0
act action.OneGen v = roll-Generator (record { name = named v.0; from = v.1.1.0; to = v.1.1.1.0; at = v.1.1.1.1.0 })
act action.AtName v = Some (name_in v.1.0)
act action.NoDefs v = []
act action.SameDefs v = v.0
act action.Defs v = v.0 ∷ v.1.0
act action.SemiDefs v = v.1.0
act action.OneDef v = roll-Def (record { targets = v.0 ∷ v.1.0; values = v.1.1.1.0 })
act action.NoTargets v = []
act action.MoreTargets v = v.1.0 ∷ v.1.1.0
act action.OneTarget v = record { name = named v.0; ty = v.1.0 }
act action.NoType v = None
act action.SomeType v = Some v.1.0
act action.TestFirst v = roll-Turn (record { is_first = true; is_until = v.0.is_until; test = v.0.test; defs = v.1.1.0 })
act action.TestLast v = roll-Turn (record { is_first = false; is_until = v.1.1.0.is_until; test = v.1.1.0.test; defs = v.1.0 })
act action.OneTest v = record { is_until = is_until v.0.kind; test = v.1.0 }
act action.NoClauses v = []
act action.MoreClauses v = v.0 ∷ v.1.0
act action.Gathered v = roll-Clause (record { line = v.0.line; kind = gathered_of v.0.kind; value = v.1.1.0; mask = v.1.1.1.0 })
act action.Valued v = roll-Clause (record { line = v.0.line; kind = v.1.1.0; value = v.1.1.1.0; mask = v.1.1.1.1.0 })
act action.NoFold v = clause.Last
act action.PlainFold v = clause.Reduce direction.Any v.0
act action.Directed v = clause.Reduce (direction_of v.0.kind) v.1.0
act action.Reduced v = reduction_of v.0.kind
act action.NoMask v = None
act action.SomeMask v = Some (record { is_unless = is_unless v.0.kind; test = v.1.0 })

-- the meaning of the grammar's productions
abbrev pub sisal : Meaning
sisal = record {
  Token = Placed;
  class = λ t. class_of t.kind;
  Kind = Sort;
  Val = Val;
  Value = Value;
  into = into;
  out = out;
  out_into = out_into;
  token = a_token;
  of_token = λ t. t;
  Action = Action;
  args = args;
  gives = gives;
  act = act;
}
