-- Names, constants and operations: each operation is one node, made behind its operands from left to right (SISAL Language Reference
-- Manual 1.2, operations; IF1 manual M-170, simple nodes).
use Rattle.std.specs.Prelude.{ℕ, zero, suc, List, [], ◌∷◌, ◌++◌, map, drop, slice_get, unwrap_or, nat_eq, if◌then◌else◌, pos}
use Rattle.if1_graph.specs.declared.op.Simple.{Simple}
use Rattle.if1_graph.specs.declared.op.Simple.TheVariants as simple
use Rattle.if1_graph.specs.Units.{greatest}
use Rattle.typed_tree.specs.Constant.{Constant}
use Rattle.typed_tree.specs.Constant.TheVariants as constant
use Rattle.typed_tree.specs.Operation.{Operation}
use Rattle.typed_tree.specs.Operation.TheVariants as operation
use Rattle.lowering.specs.declared.feed.Feed.TheVariants.{Literal, Absent}
use Rattle.lowering.specs.declared.feed.Carried.TheVariants.{One}
use Rattle.lowering.specs.declared.feed.Wire.{Wire}
use Rattle.lowering.specs.Feeds.{wire}
use Rattle.lowering.specs.declared.graph.Action.TheVariants.{Row}
use Rattle.lowering.specs.Graphs.{Lowering, only, andthen, a_node}

-- what a phrase becomes, by what the names in force stand for
abbrev pub Lowers : Type 0
Lowers = List Wire → Lowering

-- ---- numbers of the types that every table has

abbrev pub boolean : ℕ
boolean = 0

abbrev pub character : ℕ
character = 1

abbrev pub integer : ℕ
integer = 2

abbrev pub null : ℕ
null = 3

abbrev pub one : Wire
one = wire (Literal (constant.Integer (pos 1))) (One integer)

abbrev pub absent : Wire
absent = wire Absent (One integer)

-- ---- lists of phrases

-- one after another, with the values of all
abbrev pub all_lowered : List Lowers → Lowers
all_lowered [] env = only []
all_lowered (g ∷ gs) env = andthen (g env) (λ vs. andthen (all_lowered gs env) (λ ws. only (vs ++ ws)))

-- the names in force with those of definitions, each of which sees the earlier ones
abbrev pub defs_lowered : List (List Lowers) → Lowers
defs_lowered [] env = only env
defs_lowered (d ∷ ds) env = andthen (all_lowered d env) (λ vs. defs_lowered ds (env ++ vs))

-- definitions, and phrases that see them
abbrev pub body_lowered : List (List Lowers) → List Lowers → Lowers
body_lowered ds gs env = andthen (defs_lowered ds env) (all_lowered gs)

-- ---- names and constants

-- what the name of a level stands for
abbrev pub wire_at : List Wire → ℕ → Wire
wire_at env x = unwrap_or (slice_get env x) (wire (Literal constant.Nil) (One null))

abbrev pub row_lowered : Simple → List Wire → List ℕ → Lowering
row_lowered op ws ts = a_node (Row op) ws 1 (map One ts)

-- a text is the array of its characters from 1
abbrev pub constant_lowered : Constant → List ℕ → Lowering
constant_lowered (constant.Quoted s) ts = row_lowered simple.ABuild (one ∷ map (λ c. wire (Literal (constant.Letter c)) (One character)) s) ts
constant_lowered c ts = only (map (λ t. wire (Literal c) (One t)) ts)

-- ---- operations

abbrev pub absents : ℕ → List Wire
absents zero = []
absents (suc n) = absent ∷ absents n

abbrev pub reversed : List Wire → List Wire
reversed [] = []
reversed (w ∷ ws) = reversed ws ++ w ∷ []

-- a field leaves at its own port
abbrev pub field_lowered : ℕ → List Wire → List ℕ → Lowering
field_lowered f ws ts = a_node (Row simple.RElements) ws (suc f) (map One ts)

-- what fills the port of a place, where these fill those of these places
abbrev pub at_place : ℕ → List ℕ → List Wire → Wire
at_place p [] ws = absent
at_place p (x ∷ xs) [] = absent
at_place p (x ∷ xs) (w ∷ ws) = if nat_eq x p then w else at_place p xs ws

-- so many ports, the first for this place
abbrev pub changed : ℕ → ℕ → List ℕ → List Wire → List Wire
changed p zero places ws = []
changed p (suc count) places ws = at_place p places ws ∷ changed (suc p) count places ws

-- an operation other than `is t(u)`, on its operands
abbrev pub operation_lowered : Operation → List Wire → List ℕ → Lowering
operation_lowered (operation.Unary f) ws ts = row_lowered (simple.One f) ws ts
operation_lowered (operation.Binary f) ws ts = row_lowered (simple.Two f) ws ts
operation_lowered (operation.Swapped f) ws ts = row_lowered (simple.Two f) (reversed ws) ts
operation_lowered operation.Error ws ts = row_lowered simple.Error ws ts
operation_lowered operation.Array ws ts = row_lowered simple.ABuild ws ts
operation_lowered operation.EmptyArray ws ts = row_lowered simple.ABuild (one ∷ ws) ts
operation_lowered operation.Stream ws ts = row_lowered simple.ABuild (one ∷ ws) ts
operation_lowered operation.Fill ws ts = row_lowered simple.AFill ws ts
operation_lowered operation.Element ws ts = row_lowered simple.AElement ws ts
operation_lowered operation.Update ws ts = row_lowered simple.AReplace ws ts
operation_lowered operation.AddHigh ws ts = row_lowered simple.AAddH ws ts
operation_lowered operation.AddLow ws ts = row_lowered simple.AAddL ws ts
operation_lowered operation.RemoveHigh ws ts = row_lowered simple.ARemH ws ts
operation_lowered operation.RemoveLow ws ts = row_lowered simple.ARemL ws ts
operation_lowered operation.SetLow ws ts = row_lowered simple.ASetL ws ts
operation_lowered operation.Adjust ws ts = row_lowered simple.AAdjust ws ts
operation_lowered operation.LimitLow ws ts = row_lowered simple.ALimL ws ts
operation_lowered operation.LimitHigh ws ts = row_lowered simple.ALimH ws ts
operation_lowered operation.Size ws ts = row_lowered simple.ASize ws ts
operation_lowered operation.IsEmpty ws ts = row_lowered simple.AIsEmpty ws ts
operation_lowered operation.Catenate ws ts = row_lowered simple.ACatenate ws ts
operation_lowered operation.First ws ts = row_lowered simple.FirstValue ws ts
operation_lowered operation.Rest ws ts = row_lowered simple.RestValues ws ts
operation_lowered operation.Record ws ts = row_lowered simple.RBuild ws ts
-- a union's content stands at the port of its tag
operation_lowered (operation.Union tag) ws ts = row_lowered simple.RBuild (absents tag ++ ws) ts
operation_lowered (operation.Field f) ws ts = field_lowered f ws ts
-- the ports up to the last changed field
operation_lowered (operation.Change places) ws ts = row_lowered simple.RReplace (wire_at ws 0 ∷ changed 0 (suc (greatest places)) places (drop 1 ws)) ts
operation_lowered (operation.IsTag tag) ws ts = only []
