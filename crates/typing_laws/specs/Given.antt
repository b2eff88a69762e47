-- What the walk over a function's body is given, and what it makes on its way, by the numbers of types.
use Rattle.std.specs.Prelude.{ℕ, List, Bool, Option}
use Rattle.sisal_lex.specs.declared.token.Token.{Token}
use Rattle.sisal_tree.specs.declared.unit.Named.{Named}
use Rattle.typed_tree.specs.declared.expr.ClauseForm.{ClauseForm}
use Rattle.typed_tree.specs.declared.expr.Source.{Source}
use Rattle.typed_tree.specs.declared.expr.TypedExpr.{TypedExpr}

-- what the header of a function says
pub record Header : Type 0 where
  pub name : ℕ
  pub parameters : List ℕ
  pub params : List ℕ
  pub results : List ℕ

-- what doesn't change in one function's body
pub record Given : Type 0 where
  -- the tokens of the text, among which its written types stand
  pub tokens : List Token
  -- how the names of the text are spelled
  pub spellings : List (List ℕ)
  -- the names of types that are known in the function, the newest first
  pub named : List (ℕ × ℕ)
  -- the functions of the program by number
  pub functions : List Header
  -- the number of the function of a name
  pub numbers : List (ℕ × ℕ)

-- typed expressions one after another, and the types of all their values
pub record Parts : Type 0 where
  pub exprs : List TypedExpr
  pub types : List ℕ

-- a list of definitions: the values of each, what is defined, and the types of all that is defined
pub record Defined : Type 0 where
  pub exprs : List (List TypedExpr)
  pub targets : List Named
  pub types : List ℕ

-- the arms of a `tagcase` so far: the name of the content, the union with the arm of each tag, their results, the types of those
-- of the first one, and whether all have these
pub record Arms : Type 0 where
  pub name : Option ℕ
  pub union : ℕ
  pub chosen : List (ℕ × ℕ)
  pub results : List (List TypedExpr)
  pub types : Option (List ℕ)
  pub is_even : Bool

-- a group of generators: what they go over, their bounds, and their names with the types of these
pub record Group : Type 0 where
  pub sources : List Source
  pub bounds : List TypedExpr
  pub names : List Named
  pub types : List ℕ

-- what clauses make: their forms and types
pub record Folds : Type 0 where
  pub forms : List ClauseForm
  pub types : List ℕ

-- the turn of a loop with its test
pub record Turned : Type 0 where
  pub is_first : Bool
  pub is_until : Bool
  pub test : List TypedExpr
  pub renewed : List (Option ℕ)
  pub exprs : List (List TypedExpr)
