-- The phrases of SISAL: the names of the manual's grammar, and one for each group of symbols that is
-- repeated, or that may be left out.
use Rattle.std.specs.Prelude.{ℕ, List, Option}
use Rattle.sisal_tree.specs.declared.unit.Named.{Named}
use Rattle.sisal_tree.specs.declared.unit.Written.{Written}
use Rattle.sisal_tree.specs.declared.unit.Field.{Field}
use Rattle.sisal_tree.specs.declared.unit.Header.{Header}
use Rattle.sisal_tree.specs.declared.unit.Item.{Item}
use Rattle.sisal_tree.specs.declared.expr.Expr.{Expr}
use Rattle.sisal_tree.specs.declared.expr.BinaryOperator.{BinaryOperator}
use Rattle.sisal_tree.specs.declared.expr.FieldValue.{FieldValue}
use Rattle.sisal_tree.specs.declared.expr.Elements.{Elements}
use Rattle.sisal_tree.specs.declared.expr.Def.{Def}
use Rattle.sisal_tree.specs.declared.expr.Target.{Target}
use Rattle.sisal_tree.specs.declared.expr.Arm.{Arm}
use Rattle.sisal_tree.specs.declared.expr.Generator.{Generator}
use Rattle.sisal_tree.specs.declared.expr.Turn.{Turn}
use Rattle.sisal_tree.specs.declared.expr.Clause.{Clause}
use Rattle.sisal_tree.specs.declared.expr.ClauseKind.{ClauseKind}
use Rattle.sisal_tree.specs.declared.expr.Direction.{Direction}
use Rattle.sisal_tree.specs.declared.expr.Reduction.{Reduction}
use Rattle.sisal_tree.specs.declared.expr.Mask.{Mask}
use Rattle.sisal_grammar.specs.declared.value.Outline.{Outline}
use Rattle.sisal_grammar.specs.declared.value.Selector.{Selector}
use Rattle.sisal_grammar.specs.declared.value.Test.{Test}

pub data Phrase : Type 0 where
  -- {x} and [x]
  many : Phrase → Phrase
  maybe : Phrase → Phrase
  -- units, types and functions
  unit : Phrase
  definition : Phrase
  typedef : Phrase
  fundef : Phrase
  ty : Phrase
  field : Phrase
  fields : Phrase
  tagf : Phrase
  header : Phrase
  -- expressions
  exprs : Phrase
  expr : Phrase
  conj : Phrase
  inv : Phrase
  rel : Phrase
  cat : Phrase
  sum : Phrase
  term : Phrase
  neg : Phrase
  post : Phrase
  selector : Phrase
  fv : Phrase
  prim : Phrase
  -- parts of `let`, `tagcase` and `for`
  arm : Phrase
  defs : Phrase
  def : Phrase
  target : Phrase
  group : Phrase
  gen : Phrase
  turn : Phrase
  test : Phrase
  clause : Phrase
  red : Phrase
  mask : Phrase
  -- groups of symbols
  name : Phrase
  comma_name : Phrase
  semicolon : Phrase
  semi_field : Phrase
  semi_tagf : Phrase
  comma_type : Phrase
  colon_type : Phrase
  comma_expr : Phrase
  colon_expr : Phrase
  or_conj : Phrase
  and_inv : Phrase
  comparison : Phrase
  or_sum : Phrase
  sum_term : Phrase
  term_neg : Phrase
  semi_fv : Phrase
  elements : Phrase
  else_if : Phrase
  binding : Phrase
  otherwise : Phrase
  semi_def : Phrase
  comma_target : Phrase
  cross_group : Phrase
  dot_gen : Phrase
  at_name : Phrase
  folding : Phrase
  direction : Phrase

-- an `elseif`: its line, its test and its results
pub record ElseIf : Type 0 where
  pub line : ℕ
  pub test : Expr
  pub results : List Expr

-- what each phrase means
abbrev pub Meant : Phrase → Type 0
Meant (many p) = List (Meant p)
Meant (maybe p) = Option (Meant p)
Meant unit = Outline
Meant definition = Item
Meant typedef = Item
Meant fundef = Item
Meant ty = Written
Meant field = Field
Meant fields = List Field
Meant tagf = Unit {0}
Meant header = Header
Meant exprs = List Expr
Meant expr = Expr
Meant conj = Expr
Meant inv = Expr
Meant rel = Expr
Meant cat = Expr
Meant sum = Expr
Meant term = Expr
Meant neg = Expr
Meant post = Expr
Meant selector = Selector
Meant fv = FieldValue
Meant prim = Expr
Meant arm = Arm
Meant defs = List Def
Meant def = Def
Meant target = Target
Meant group = List Generator
Meant gen = Generator
Meant turn = Turn
Meant test = Test
Meant clause = Clause
Meant red = Reduction
Meant mask = Mask
Meant name = ℕ
Meant comma_name = Named
Meant semicolon = Unit {0}
Meant semi_field = Field
Meant semi_tagf = Unit {0}
Meant comma_type = Written
Meant colon_type = Written
Meant comma_expr = Expr
Meant colon_expr = Expr
Meant or_conj = BinaryOperator × Expr
Meant and_inv = BinaryOperator × Expr
Meant comparison = BinaryOperator × Expr
Meant or_sum = BinaryOperator × Expr
Meant sum_term = BinaryOperator × Expr
Meant term_neg = BinaryOperator × Expr
Meant semi_fv = FieldValue
Meant elements = Elements
Meant else_if = ElseIf
Meant binding = ℕ
Meant otherwise = List Expr
Meant semi_def = Def
Meant comma_target = Target
Meant cross_group = List Generator
Meant dot_gen = Generator
Meant at_name = ℕ
Meant folding = ClauseKind
Meant direction = Direction
