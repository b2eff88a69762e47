-- Which edges consume what they carry, and which inputs of graphs and nodes are given, so that what comes in there may become
-- a part of a result (Cann's storage rules).
--
-- A function's input is given if a consuming edge that leads to no Call leaves it inside; so no rule goes around through calls.
-- What a compound node consumes goes by what the graphs inside do with their inputs: a recursion on graphs inside of graphs.
use Rattle.std.specs.Prelude.{ℕ, zero, suc, ◌-◌, Bool, true, false, ◌&&◌, not, List, [], ◌∷◌, drop, find, Option, Some, None, ◌==◌, if◌then◌else◌}
use Rattle.std.specs.List.{list_any}
use Rattle.if1_graph.specs.declared.graph.Edge.{Edge}
use Rattle.if1_graph.specs.declared.graph.Graph.{Graph}
use Rattle.if1_graph.specs.declared.graph.Graph.TheViews.{out-Graph}
use Rattle.if1_graph.specs.declared.graph.Graph.TheOpen.{Graph-F, Node-F}
use Rattle.if1_graph.specs.declared.graph.Graph.TheFolds.{fold-Graph, fold-Node}
use Rattle.if1_graph.specs.declared.graph.Node.{Node, out-Node}
use Rattle.if1_graph.specs.declared.graph.TypeEntry.{TypeEntry}
use Rattle.if1_graph.specs.declared.graph.Unit1.{Unit1}
use Rattle.if1_graph.specs.declared.op.Compound.{Compound}
use Rattle.if1_graph.specs.declared.op.Compound.TheVariants as compound
use Rattle.if1_graph.specs.declared.op.Simple.{Simple}
use Rattle.if1_graph.specs.declared.op.Simple.TheVariants as simple
use Rattle.if1_graph.specs.Formed.{function_named}
use Rattle.if1_graph.specs.Ops.{simple_at, compound_at}
use Rattle.if1_graph.specs.Ports.{leaves, literal_at}
use Rattle.if1_graph.specs.Rows.{Operand, operand_of, is_consumed}
use Rattle.if1_graph.specs.Tables.{◌>>=◌}
use Rattle.if1_graph.specs.Units.{label_of, node_at}
use Rattle.if1_marks.specs.Aggregates.{is_aggregate}

-- ---- graphs inside of graphs

-- what is known of the inputs of a graph: an edge leaves it inside, and a consuming edge that leads to no Call does
pub record Inside : Type 0 where
  pub is_used : (port : ℕ) → Bool
  pub is_given : (port : ℕ) → Bool

-- what is known of the ports of a node: it consumes what is carried there, other than by a call
pub record Operands : Type 0 where
  pub label : ℕ
  pub is_consumed : (port : ℕ) → Bool

-- given in the initialization, and left by no edge in test, body and returns
abbrev pub is_given_to_loop : List Inside → ℕ → Bool
is_given_to_loop [] port = false
is_given_to_loop (init ∷ others) port = init.is_given port && not (list_any (λ g. g.is_used port) others)

-- An input of a Select is given if it is in an alternative, one of a TagCase if it is in an arm. A ForAll has no given input.
abbrev pub is_given_to : Compound → List Inside → ℕ → Bool
is_given_to compound.Select gs port = list_any (λ g. g.is_given port) (drop 1 gs)
is_given_to compound.TagCase gs port = list_any (λ g. g.is_given port) gs
is_given_to compound.LoopA gs port = is_given_to_loop gs port
is_given_to compound.LoopB gs port = is_given_to_loop gs port
is_given_to compound.ForAll gs port = false

abbrev pub is_operand_consumed : Option Operand → Bool
is_operand_consumed None = false
is_operand_consumed (Some o) = is_consumed o.0

-- what a compound node is given, and what a simple one changes or stores by its row of the table; a Call has no such operand
abbrev pub is_consumed_as : Option Compound → Option Simple → List Inside → ℕ → Bool
is_consumed_as (Some c) op gs port = is_given_to c gs port
is_consumed_as None (Some op) gs port = is_operand_consumed (operand_of op port)
is_consumed_as None None gs port = false

abbrev pub is_consumed_in : Option Operands → ℕ → Bool
is_consumed_in None port = false
is_consumed_in (Some n) port = n.is_consumed port

-- by a node, or by the boundary, whose results are all consumed
abbrev pub is_consumed_at : List Operands → ℕ → ℕ → Bool
is_consumed_at ns zero port = true
is_consumed_at ns (suc l) port = is_consumed_in (find (λ n. n.label == suc l) ns) port

abbrev pub is_consuming_in : List TypeEntry → List Operands → Edge → Bool
is_consuming_in ts ns e = is_aggregate ts e.ty && is_consumed_at ns e.node e.port

abbrev pub graph_step : List TypeEntry → Graph-F Inside Operands → Inside
graph_step ts g =
    record {
      is_used = λ port. list_any (λ e. leaves 0 port e.from) g.edges;
      is_given = λ port. list_any (λ e. leaves 0 port e.from && is_consuming_in ts g.nodes e) g.edges;
    }

abbrev pub node_step : Node-F Inside Operands → Operands
node_step n = record { label = n.label; is_consumed = is_consumed_as (compound_at n.op) (simple_at n.op) n.subs }

abbrev pub inside : List TypeEntry → Graph → Inside
inside ts = fold-Graph Inside Operands (graph_step ts) node_step

abbrev pub operands : List TypeEntry → Node → Operands
operands ts = fold-Node Inside Operands (graph_step ts) node_step

-- ---- given inputs, and consuming edges

-- the input of a function or of a part of a node is given inside
abbrev pub is_given_inside : Unit1 → Graph → ℕ → Bool
is_given_inside u g port = (inside u.types g).is_given port

-- an edge leaves the input
abbrev pub is_used_inside : Graph → ℕ → Bool
is_used_inside g port = list_any (λ e. leaves 0 port e.from) (out-Graph g).edges

-- the function that a Call names
abbrev pub called : Unit1 → Graph → ℕ → Option Graph
called u g l = literal_at g l 1 >>= λ name. function_named u.graphs name

-- the arguments of a Call are its ports from 2 on
abbrev pub is_given_to_called : Unit1 → Option Graph → ℕ → Bool
is_given_to_called u None port = false
is_given_to_called u (Some f) port = is_given_inside u f (port - 1)

abbrev pub is_call_as : Option Compound → Option Simple → Bool
is_call_as None (Some simple.Call) = true
is_call_as _ _ = false

abbrev pub is_call : Node → Bool
is_call n = is_call_as (compound_at (out-Node n).op) (simple_at (out-Node n).op)

-- the node itself consumes what is carried into this port; what a compound node consumes is given inside
abbrev pub is_consumed_by : Unit1 → Node → ℕ → Bool
is_consumed_by u n port = (operands u.types n).is_consumed port

abbrev pub consumes_node : Unit1 → Graph → Option Node → ℕ → Bool
consumes_node u g None port = false
consumes_node u g (Some n) port = if is_call n then is_given_to_called u (called u g (label_of n)) port else is_consumed_by u n port

-- the node of this label, or the boundary for 0, consumes what is carried into this port
abbrev pub consumes : Unit1 → Graph → ℕ → ℕ → Bool
consumes u g zero port = true
consumes u g (suc l) port = consumes_node u g (node_at (out-Graph g).nodes (suc l)) port

-- an aggregate is carried to where it is consumed
abbrev pub is_consuming : Unit1 → Graph → Edge → Bool
is_consuming u g e = is_aggregate u.types e.ty && consumes u g e.node e.port
