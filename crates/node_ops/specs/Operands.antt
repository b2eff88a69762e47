-- What the operands of a simple node stand for, by port, and the values that its outputs are (IF1 manual M-170, simple
-- nodes).
--
-- A multiple stands as the stream of its elements or as its error, and a name as the array of its characters.
use Rattle.std.specs.Prelude.{ℕ, pos, List, [], ◌∷◌, map, Option, Some, None}
use Rattle.std.specs.Option.{option_map}
use Rattle.flow_value.specs.Bounds.{bounded}
use Rattle.flow_value.specs.declared.operands.Shape.{Shape}
use Rattle.flow_value.specs.declared.operands.Shape.TheVariants.{Plain, Stream, Union, Fields}
use Rattle.flow_value.specs.declared.value.Val.{Val}
use Rattle.flow_value.specs.declared.value.Val.TheOpen.{Val-F}
use Rattle.flow_value.specs.declared.value.Val.TheVariants as val
use Rattle.flow_value.specs.declared.value.Val.TheViews.{out-Val}
use Rattle.if1_graph.specs.Rows.{Operand, row_of}
use Rattle.if1_graph.specs.declared.op.Simple.{Simple}
use Rattle.if1_graph.specs.declared.row.Gives.{Gives}
use Rattle.if1_graph.specs.declared.row.Gives.TheVariants as gives
use Rattle.if1_graph.specs.declared.row.Rest.{Rest}
use Rattle.if1_graph.specs.declared.row.Rest.TheVariants as rest
use Rattle.graph_meaning.specs.Carried.{Carried, Value, Many, Spoiled, Name, Unfilled, val_of}
use Rattle.graph_meaning.specs.NodeValues as node
use Rattle.graph_meaning.specs.Strict.{Taken, AnyValue, AnInteger, AMultiple, AName, AReduction, taken_of}

-- the codes of characters, if all are characters
abbrev pub text_of : List Val → Option (List ℕ)
text_of [] = Some []
text_of (val.Char c ∷ vs) = option_map (λ cs. c ∷ cs) (text_of vs)
text_of _ = None

abbrev pub plain : Option Val → Carried
plain None = Unfilled
plain (Some v) = Value v

abbrev pub multiple_in : Val → Val-F Val → Carried
multiple_in v (Val-F.Stream vs) = Many vs
multiple_in v (Val-F.Err c) = Spoiled c
multiple_in v _ = Value v

abbrev pub named : Val → Option (List ℕ) → Carried
named v None = Value v
named v (Some text) = Name text

abbrev pub name_in : Val → Val-F Val → Carried
name_in v (Val-F.Arr a) = named v (text_of a.items)
name_in v _ = Value v

abbrev pub multiple : Option Val → Carried
multiple None = Unfilled
multiple (Some v) = multiple_in v (out-Val v)

abbrev pub name : Option Val → Carried
name None = Unfilled
name (Some v) = name_in v (out-Val v)

-- what an operand stands for at a port that takes this
abbrev pub stands_for : Taken → Option Val → Carried
stands_for AnyValue = plain
stands_for AnInteger = plain
stands_for AMultiple = multiple
stands_for AName = name
stands_for AReduction = name

-- at a port after those that every node of the row has
abbrev pub stands_behind : Rest → Option Val → Carried
stands_behind rest.Mask = multiple
stands_behind (rest.More how w) = stands_for (taken_of w)
stands_behind _ = plain

abbrev pub carried : List Operand → Rest → List (Option Val) → List Carried
carried [] more ins = map (stands_behind more) ins
carried (o ∷ os) more [] = []
carried (o ∷ os) more (i ∷ ins) = stands_for (taken_of o.1) i ∷ carried os more ins

-- what is carried into the ports of the node
abbrev pub carried_by : Simple → List (Option Val) → List Carried
carried_by o ins = carried (row_of o).operands (row_of o).rest ins

abbrev pub shape_of : Shape → node.Shape
shape_of Plain = node.Plain
shape_of Stream = node.Stream
shape_of Union = node.Union
shape_of (Fields n) = node.Fields n

-- the value that an output is
abbrev pub output_value : Carried → Val
output_value (Many vs) = val.Stream vs
output_value c = val_of c

-- the outputs of a simple node on these operands
abbrev pub node_values : Simple → Shape → List (Option Val) → List Val
node_values o s ins = map output_value (node.op o (shape_of s) (carried_by o ins))

abbrev pub GivesOne : Gives → Type 0
GivesOne (gives.One w) = Unit {0}
GivesOne _ = ⊥

-- the row gives one output
abbrev pub HasOneOutput : Simple → Type 0
HasOneOutput o = GivesOne (row_of o).gives

-- ---- the other way round

-- the operand that stands for what is carried into a port
abbrev pub operand_for : Carried → Option Val
operand_for Unfilled = None
operand_for (Value v) = Some v
operand_for (Many vs) = Some (val.Stream vs)
operand_for (Spoiled c) = Some (val.Err c)
operand_for (Name text) = Some (val.Arr (bounded (pos 1) (map val.Char text)))
