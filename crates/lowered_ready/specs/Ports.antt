-- The ports of simple nodes of lowered graphs: which are filled, with which types, and what nodes give (IF1 manual M-170, simple
-- nodes).
use Rattle.std.specs.Prelude.{◌≡◌, ℕ, zero, suc, true, nat_eq, pos, List, [], ◌∷◌, ◌++◌, length, ◌⊎◌, Option, Some, None, IsSome, All, option_map, MatchOption, if◌then◌else◌}
use Rattle.flow_value.specs.declared.ty.Ty.TheVariants as ty
use Rattle.sisal_tree.specs.declared.expr.Constant.TheVariants as constant
use Rattle.if1_graph.specs.declared.op.Compound.{Compound}
use Rattle.if1_graph.specs.declared.op.Part.{Part}
use Rattle.if1_graph.specs.declared.op.Simple.{Simple}
use Rattle.if1_graph.specs.declared.op.Simple.TheVariants as simple
use Rattle.if1_graph.specs.declared.op.Reducer.{Reducer}
use Rattle.if1_graph.specs.declared.row.Rest.{Rest}
use Rattle.if1_graph.specs.declared.row.Rest.TheVariants.{Nothing, Mask, More, Arguments, Fields, NewFields}
use Rattle.if1_graph.specs.declared.row.Gives.{Gives}
use Rattle.if1_graph.specs.declared.row.Gives.TheVariants as gives
use Rattle.if1_graph.specs.Tables.{◌>>=◌, at_port}
use Rattle.if1_graph.specs.Ops.{reducer_at}
use Rattle.if1_graph.specs.Rows.{row_of, operand_of, output_of}
use Rattle.if1_graph.specs.Types.{Sort, Plain}
use Rattle.if1_graph.specs.Ports.{AreFirst, AreAtLeast, IsOnePort, AreArguments, AreParts, AreChanges, IsUpTo, arguments_of, results_of, fields_of, tags_of, is_stream}
use Rattle.if1_graph.specs.Typing.{Known, Fits, StandsRight, IsFunctionType}
use Rattle.lowering.specs.declared.feed.Feed.{Feed}
use Rattle.lowering.specs.declared.feed.Feed.TheVariants.{Literal, Named, Absent}
use Rattle.lowering.specs.declared.feed.Carried.{Carried}
use Rattle.lowering.specs.declared.feed.Carried.TheVariants.{Callee}
use Rattle.lowering.specs.declared.feed.Wire.{Wire}
use Rattle.lowering.specs.declared.graph.Action.{Action}
use Rattle.lowering.specs.declared.graph.Action.TheVariants.{Row, Call}

-- ---- what a node gives

-- the types of the outputs of a node, the first at this port
pub record Outs : Type 0 where
  pub port : ℕ
  pub types : List Carried

-- the type at a port, where these stand from a port on
abbrev pub type_from : ℕ → List Carried → ℕ → Option Carried
type_from port [] q = None
type_from port (t ∷ ts) q = if nat_eq port q then Some t else type_from (suc port) ts q

abbrev pub type_at : Outs → ℕ → Option Carried
type_at o q = type_from o.port o.types q

-- ---- which ports are filled

abbrev pub filled_if : ℕ → Feed → List ℕ
filled_if port Absent = []
filled_if port f = port ∷ []

-- the filled ports from one on
abbrev pub filled_from : ℕ → List Wire → List ℕ
filled_from port [] = []
filled_from port (w ∷ ws) = filled_if port w.feed ++ filled_from (suc port) ws

-- the name of a called function stands at port 1, its arguments behind it
abbrev pub first_port : Action → ℕ
first_port (Call f) = 2
first_port a = 1

abbrev pub filled : Action → List Wire → List ℕ
filled (Call f) ws = 1 ∷ filled_from 2 ws
filled a ws = filled_from 1 ws

-- ---- the name of a reduction

abbrev pub reducer_of : Feed → Option Reducer
reducer_of (Named text) = reducer_at text
reducer_of f = None

abbrev pub reducer_in : List Wire → Option Reducer
reducer_in [] = None
reducer_in (w ∷ ws) = reducer_of w.feed

abbrev pub IsReduction : List Wire → Type 0
IsReduction ws = IsSome (reducer_in ws)

-- by what each wire carries
module _ (sort : Carried → Sort) where
  abbrev pub sort_if : Feed → Carried → Option Sort
  sort_if Absent c = None
  sort_if f c = Some (sort c)

  -- what a port carries, from 1, where it is filled
  abbrev pub sort_in : List Wire → ℕ → Option Sort
  sort_in ws port = at_port port ws >>= λ w. sort_if w.feed w.ty

  abbrev pub sort_into : Action → List Wire → ℕ → Option Sort
  sort_into (Call f) ws zero = None
  sort_into (Call f) ws (suc zero) = Some (sort (Callee f))
  sort_into (Call f) ws (suc (suc n)) = sort_in ws (suc n)
  sort_into a ws port = sort_in ws port

  -- ---- what is known of a node: what its ports carry, and for a call and a reduction what its name stands for

  abbrev pub IsNameKnown : Action → List Wire → Known → Type 0
  IsNameKnown (Call f) ws k = k.callee ≡ Some (sort (Callee f))
  IsNameKnown (Row (simple.Reduce g)) ws k = k.reducer ≡ reducer_in ws
  IsNameKnown a ws k = Unit {0}

  pub record IsKnown (a : Action) (ws : List Wire) (k : Known) : Type 0 where
    pub at : (port : ℕ) → k.at port ≡ sort_into a ws port
    pub name : IsNameKnown a ws k

  -- ---- types

  -- what fills a port is of a type that the row wants there
  abbrev pub IsWanted : Known → Simple → ℕ → Feed → Carried → Type 0
  IsWanted k op port Absent c = Unit {0}
  IsWanted k op port f c = MatchOption (operand_of op port) ⊥ (λ operand. Fits k operand.1 (sort c))

  -- from a port on
  abbrev pub AreWanted : Known → Simple → ℕ → List Wire → Type 0
  AreWanted k op port [] = Unit {0}
  AreWanted k op port (w ∷ ws) = IsWanted k op port w.feed w.ty × AreWanted k op (suc port) ws

  -- how many outputs a row has, where the types that tell it are known
  abbrev pub outputs_by : Known → Gives → Option ℕ
  outputs_by k (gives.One a) = Some 1
  outputs_by k (gives.Pair a b) = Some 2
  outputs_by k gives.Results = option_map length (results_of k.callee)
  outputs_by k gives.AllFields = option_map length (fields_of (k.at 1))

  -- an output is there, and of a type that the row gives
  abbrev pub IsGiven : Known → Simple → ℕ → Carried → Type 0
  IsGiven k op port c = IsUpTo (outputs_by k (row_of op).gives) port × MatchOption (output_of op port) ⊥ (λ want. Fits k want (sort c))

  abbrev pub AreGiven : Known → Simple → ℕ → List Carried → Type 0
  AreGiven k op port [] = Unit {0}
  AreGiven k op port (c ∷ cs) = IsGiven k op port c × AreGiven k op (suc port) cs

  -- ---- ports

  -- the filled ports of a node with so many operands and then these, where its outputs are of these types
  abbrev pub AreFilled : Known → ℕ → Rest → List Carried → List ℕ → Type 0
  AreFilled k n Nothing outs ports = AreFirst n ports
  AreFilled k n Mask outs ports = AreFirst n ports ⊎ AreFirst (suc n) ports
  AreFilled k n (More how want) outs ports = AreAtLeast n ports
  AreFilled k n Arguments outs ports = AreArguments n (arguments_of k.callee) ports
  AreFilled k n Fields outs ports = (AreAtLeast 1 ports ⊎ IsOnePort ports) × All (λ c. AreParts (fields_of (Some (sort c))) (tags_of (Some (sort c))) ports) outs
  AreFilled k n NewFields outs ports = AreChanges (fields_of (k.at 1)) ports

  -- the integer 1
  abbrev pub IsOne : List Wire → Type 0
  IsOne [] = ⊥
  IsOne (w ∷ ws) = (w.feed ≡ Literal (constant.Integer (pos 1))) × (sort w.ty ≡ Plain ty.Int)

  -- the lower bound of a stream is 1
  abbrev pub IsBounded : Simple → List Wire → List Carried → Type 0
  IsBounded simple.ABuild ws outs = All (λ c. is_stream (Some (sort c)) ≡ true → IsOne ws) outs
  IsBounded simple.AGather ws outs = All (λ c. is_stream (Some (sort c)) ≡ true → IsOne ws) outs
  IsBounded op ws outs = Unit {0}

  abbrev pub IsNamedRight : Action → List Wire → Type 0
  IsNamedRight (Call f) ws = IsFunctionType (Some (sort (Callee f)))
  IsNamedRight (Row simple.Call) ws = ⊥
  IsNamedRight (Row (simple.Reduce g)) ws = IsReduction ws
  IsNamedRight a ws = Unit {0}

  -- a node of a row, in a graph that is this part of a node
  pub record IsSimple (part : Option (Compound × Part)) (a : Action) (op : Simple) (ws : List Wire) (o : Outs) : Type 0 where
    pub wanted : (k : Known) → IsKnown a ws k → AreWanted k op (first_port a) ws
    pub gives : (k : Known) → IsKnown a ws k → AreGiven k op o.port o.types
    pub ports : (k : Known) → IsKnown a ws k → AreFilled k (length (row_of op).operands) (row_of op).rest o.types (filled a ws)
    pub bound : IsBounded op ws o.types
    pub name : IsNamedRight a ws
    pub place : StandsRight part (Some op)
