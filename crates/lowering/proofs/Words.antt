-- Short words for examples: phrases of typed trees with their parts lowered already, and graphs as they are written.
use Rattle.std.specs.Prelude.{ℕ, pos, List, [], ◌∷◌, map}
use Rattle.if1_graph.specs.declared.op.Simple.{Simple}
use Rattle.typed_tree.specs.Constant.{Constant}
use Rattle.typed_tree.specs.Constant.TheVariants as constants
use Rattle.typed_tree.specs.Direction.{Direction}
use Rattle.typed_tree.specs.Direction.TheVariants as direction
use Rattle.typed_tree.specs.Operation.{Operation}
use Rattle.typed_tree.specs.Folding.{Folding}
use Rattle.typed_tree.specs.Masking.{Masking}
use Rattle.typed_tree.specs.Masking.TheVariants as masking
use Rattle.typed_tree.specs.Form.{Form}
use Rattle.typed_tree.specs.Form.TheVariants.{Boolean, Character, Integer, Null, Array, Stream, Record, Union}
use Rattle.typed_tree.specs.Member.{Member}
use Rattle.typed_tree.specs.declared.expr.Case.{Case}
use Rattle.typed_tree.specs.declared.expr.Choice.{Choice}
use Rattle.typed_tree.specs.declared.expr.ClauseForm.{ClauseForm}
use Rattle.typed_tree.specs.declared.expr.TypedKind.TheOpen.{TypedKind-F}
use Rattle.lowering.specs.declared.feed.Feed.{Feed}
use Rattle.lowering.specs.declared.feed.Feed.TheVariants.{Literal, Port}
use Rattle.lowering.specs.declared.feed.Carried.{Carried}
use Rattle.lowering.specs.declared.feed.Carried.TheVariants.{One, Many}
use Rattle.lowering.specs.declared.feed.Wire.{Wire}
use Rattle.lowering.specs.Feeds.{wire}
use Rattle.lowering.specs.declared.graph.Action.TheVariants.{Row}
use Rattle.lowering.specs.declared.graph.LoweredNode.{LoweredNode}
use Rattle.lowering.specs.declared.graph.LoweredGraph.{LoweredGraph}
use Rattle.lowering.specs.declared.graph.Lowered.{Lowered}
use Rattle.lowering.specs.Graphs.{node, new_graphs, closed_graphs, graph_lines}
use Rattle.lowering.specs.Operations.{all_lowered}
use Rattle.lowering.specs.Loops.{Phrase, own_inputs}
use Rattle.lowering.specs.Phrases.{Kind, each, expr_lowered, kind_lowered}

-- ---- graphs

-- an input of the graph, and an output of a node
abbrev pub own : ℕ → Feed
own p = Port 0 0 p

abbrev pub out : ℕ → ℕ → Feed
out n p = Port 0 n p

-- wires by what they carry: integers and booleans are types 2 and 0
abbrev pub value : ℕ → Feed → Wire
value t f = wire f (One t)

abbrev pub values : ℕ → Feed → Wire
values t f = wire f (Many t)

abbrev pub int : Feed → Wire
int f = value 2 f

abbrev pub ints : Feed → Wire
ints f = values 2 f

abbrev pub truth : Feed → Wire
truth f = value 0 f

abbrev pub truths : Feed → Wire
truths f = values 0 f

abbrev pub number : ℕ → Wire
number n = int (Literal (constants.Integer (pos n)))

abbrev pub letter : ℕ → Wire
letter c = value 1 (Literal (constants.Letter c))

abbrev pub row : Simple → List Wire → LoweredNode
row op ws = node (Row op) ws

abbrev pub graph : List LoweredNode → List Wire → LoweredGraph
graph nodes results = record { nodes = nodes; results = results }

-- ---- trees

abbrev pub member : ℕ → ℕ → Member
member name ty = record { name = name; ty = ty }

abbrev pub clause : Folding → ClauseForm
clause f = record { folding = f; direction = direction.Any; masking = masking.All }

abbrev pub masked : Folding → Direction → Masking → ClauseForm
masked f d m = record { folding = f; direction = d; masking = m }

-- arms, of which the first so many see the content, with the arm of each tag
abbrev pub arms : ℕ → List Choice → ℕ → Case
arms named choices others = record { named = named; choices = choices; others = others }

-- an arm names a tag
abbrev pub by : ℕ → ℕ → Choice
by tag arm = record { tag = tag; arm = arm }

-- The types of the examples: 5 to 7 are arrays and a stream, 8 is union[p: integer; q: boolean; w; z: integer], 9 is
-- record[x, y: integer; t: array[integer]].
abbrev pub forms : List Form
forms =
    Boolean ∷ Character ∷ Integer ∷ Null ∷ Array 1 ∷ Array 2 ∷ Stream 2 ∷ Array 5
    ∷ Union (member 0 2 ∷ member 1 0 ∷ member 2 3 ∷ member 3 2 ∷ []) ∷ Record (member 4 2 ∷ member 5 2 ∷ member 6 5 ∷ []) ∷ []

abbrev pub at : TypedKind-F Kind Phrase → List ℕ → Phrase
at kind types = expr_lowered (record { line = 1; types = types; kind = kind_lowered forms kind })

abbrev pub constant : Constant → ℕ → Phrase
constant c t = at (TypedKind-F.Constant c) (t ∷ [])

abbrev pub num : ℕ → Phrase
num n = constant (constants.Integer (pos n)) 2

-- the name of a level
abbrev pub name : ℕ → ℕ → Phrase
name level t = at (TypedKind-F.Value level) (t ∷ [])

abbrev pub var : ℕ → Phrase
var level = name level 2

abbrev pub apply : Operation → List Phrase → ℕ → Phrase
apply op es t = at (TypedKind-F.Apply op es) (t ∷ [])

abbrev pub call : ℕ → List Phrase → List ℕ → Phrase
call f es ts = at (TypedKind-F.Call f es) ts

-- the graphs of a function of parameters of these types, the first in the text, and what their lines carry
abbrev pub function_of : List ℕ → List Phrase → List Lowered
function_of params es = new_graphs 1 (all_lowered (each es) (own_inputs 1 (map One params)) ∷ [])

abbrev pub graphs_of : List ℕ → List Phrase → List LoweredGraph
graphs_of params es = closed_graphs [] 0 0 (function_of params es)

abbrev pub lines_of : List ℕ → List Phrase → List Carried
lines_of params es = graph_lines (function_of params es)
