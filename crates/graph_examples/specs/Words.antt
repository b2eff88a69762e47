-- Words of the examples: what a port carries, and what a node gives on its operands.
use Rattle.std.specs.Prelude.{◌≡◌, ℕ, ℤ, pos, negsuc, Bool, List, [], ◌∷◌}
use Rattle.flow_value.specs.Bounds.{bounded}
use Rattle.flow_value.specs.declared.cause.Cause.{Cause}
use Rattle.flow_value.specs.declared.value.Val.{Val}
use Rattle.flow_value.specs.declared.value.Val.TheVariants as val
use Rattle.if1_graph.specs.declared.op.Simple.{Simple}
use Rattle.graph_meaning.specs.Carried.{Carried, Value, Spoiled}
use Rattle.graph_meaning.specs.NodeValues.{Shape, op}
use Rattle.graph_meaning.specs.NodeValues as shape

-- ---- values

abbrev pub num : ℕ → Val
num n = val.Int (pos n)

-- the greatest and the least integer
abbrev pub greatest : ℤ
greatest = pos 9223372036854775807

abbrev pub least : ℤ
least = negsuc 9223372036854775807

abbrev pub minus_one : ℤ
minus_one = negsuc 0

-- the array of these elements from a lower bound
abbrev pub array_from : ℤ → List Val → Val
array_from lo vs = val.Arr (bounded lo vs)

-- ---- what a port carries

abbrev pub int : ℤ → Carried
int n = Value (val.Int n)

abbrev pub bool : Bool → Carried
bool b = Value (val.Bool b)

abbrev pub char : ℕ → Carried
char c = Value (val.Char c)

abbrev pub null : Carried
null = Value val.Null

abbrev pub error : Cause → Carried
error c = Value (val.Err c)

abbrev pub array : ℤ → List Val → Carried
array lo vs = Value (array_from lo vs)

abbrev pub stream : List Val → Carried
stream vs = Value (val.Stream vs)

abbrev pub fields : List Val → Carried
fields vs = Value (val.Rec vs)

-- ---- what a node gives

-- one output, this value
abbrev pub Gives : Simple → List Carried → Val → Type 0
Gives o cs v = op o shape.Plain cs ≡ Value v ∷ []

-- one output, the error of this cause
abbrev pub Fails : Simple → List Carried → Cause → Type 0
Fails o cs c = Gives o cs (val.Err c)

-- the same, where the output is a stream
abbrev pub FailsAsStream : Simple → List Carried → Cause → Type 0
FailsAsStream o cs c = op o shape.Stream cs ≡ error c ∷ []

-- one multiple, which is an error as a whole
abbrev pub Spoils : Simple → List Carried → Cause → Type 0
Spoils o cs c = op o shape.Plain cs ≡ Spoiled c ∷ []
