-- The operands that fit a simple node, and the error that a strict one of them brings to every output (IF1 manual M-170,
-- simple nodes).
use Rattle.std.specs.Prelude.{◌≡◌, ℕ, suc, Bool, true, false, if◌then◌else◌, List, [], ◌∷◌, Option, Some, None}
use Rattle.loop_folds.specs.Cause.{Cause}
use Rattle.loop_folds.specs.Val.{Val}
use Rattle.loop_folds.specs.Val.TheVariants as val
use Rattle.loop_folds.specs.Elements.{or_else, error_of}
use Rattle.if1_graph.specs.Ops.{reducer_at}
use Rattle.if1_graph.specs.Rows.{Operand, row_of, operand_of, is_strict}
use Rattle.if1_graph.specs.declared.op.Reducer.{Reducer}
use Rattle.if1_graph.specs.declared.op.Simple.{Simple}
use Rattle.if1_graph.specs.declared.row.Rest.{Rest}
use Rattle.if1_graph.specs.declared.row.Rest.TheVariants as rest
use Rattle.if1_graph.specs.declared.row.Want.{Want}
use Rattle.if1_graph.specs.declared.row.Want.TheVariants as want
use Rattle.graph_meaning.specs.Carried.{Carried, Value, Many, Spoiled, Name, Unfilled}

-- What a port takes: a value, one that is an integer or an error, a multiple, a name of a function or of a reduction.
pub data Taken : Type 0 where
  AnyValue : Taken
  AnInteger : Taken
  AMultiple : Taken
  AName : Taken
  AReduction : Taken

abbrev pub taken_of : Want → Taken
taken_of want.Integer = AnInteger
taken_of want.Multiple = AMultiple
taken_of want.Integers = AMultiple
taken_of want.Booleans = AMultiple
taken_of want.Reducible = AMultiple
taken_of (want.Elements port) = AMultiple
taken_of want.Function = AName
taken_of want.Reduction = AReduction
taken_of _ = AnyValue

abbrev pub is_integer : Val → Bool
is_integer (val.Int n) = true
is_integer (val.Err c) = true
is_integer _ = false

abbrev pub Takes : Taken → Carried → Type 0
Takes AnyValue (Value v) = Unit {0}
Takes AnInteger (Value v) = is_integer v ≡ true
Takes AMultiple (Many vs) = Unit {0}
Takes AMultiple (Spoiled c) = Unit {0}
Takes AName (Name text) = Unit {0}
Takes AReduction (Name text) = (r : Reducer) × (reducer_at text ≡ Some r)
Takes _ _ = ⊥

abbrev pub AllTake : Taken → List Carried → Type 0
AllTake k [] = Unit {0}
AllTake k (c ∷ cs) = Takes k c × AllTake k cs

-- each of the ports has a value or nothing
abbrev pub MayHaveValues : List Carried → Type 0
MayHaveValues [] = Unit {0}
MayHaveValues (Value v ∷ cs) = MayHaveValues cs
MayHaveValues (Unfilled ∷ cs) = MayHaveValues cs
MayHaveValues (c ∷ cs) = ⊥

-- what is carried into the ports after those that every node of the row has
abbrev pub FitsRest : Rest → List Carried → Type 0
FitsRest rest.Nothing [] = Unit {0}
FitsRest rest.Nothing (c ∷ cs) = ⊥
FitsRest rest.Mask [] = Unit {0}
FitsRest rest.Mask (m ∷ []) = Takes AMultiple m
FitsRest rest.Mask (m ∷ c ∷ cs) = ⊥
FitsRest (rest.More how w) cs = AllTake (taken_of w) cs
FitsRest rest.Arguments cs = AllTake AnyValue cs
FitsRest rest.Fields cs = MayHaveValues cs
FitsRest rest.NewFields cs = MayHaveValues cs

abbrev pub Fits : List Operand → Rest → List Carried → Type 0
Fits [] more cs = FitsRest more cs
Fits (o ∷ os) more [] = ⊥
Fits (o ∷ os) more (c ∷ cs) = Takes (taken_of o.1) c × Fits os more cs

-- as many ports as the row has, with a multiple, a name or an integer exactly where the row wants one
abbrev pub IsFit : Simple → List Carried → Type 0
IsFit o cs = Fits (row_of o).operands (row_of o).rest cs

-- the cause of a value or multiple that is an error
abbrev pub error_in : Carried → Option Cause
error_in (Value v) = error_of v
error_in (Spoiled c) = Some c
error_in _ = None

abbrev pub is_strict_at : Option Operand → Bool
is_strict_at None = false
is_strict_at (Some o) = is_strict o.0

-- the error of the least strict port that carries one, where the first operand is at this port
abbrev pub first_strict : Simple → ℕ → List Carried → Option Cause
first_strict o port [] = None
first_strict o port (c ∷ cs) = or_else (if is_strict_at (operand_of o port) then error_in c else None) (first_strict o (suc port) cs)

-- each of these is the error with this cause
abbrev pub AreErrors : Cause → List Carried → Type 0
AreErrors c [] = Unit {0}
AreErrors c (r ∷ rs) = (error_in r ≡ Some c) × AreErrors c rs
