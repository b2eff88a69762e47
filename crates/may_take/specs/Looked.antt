-- What is known of a graph once it was looked at.
use Rattle.std.specs.Prelude.{◌≡◌, ℕ, zero, suc, ◌≤◌, Bool, true, false, ◌&&◌, IsTrue, List, [], map, length, find, All, Option, Some, None, slice_get, ◌==◌, if◌then◌else◌}
use Rattle.std.specs.List.{flat_map}
use Rattle.std.specs.List.Sorted.{IsStrictlyIncreasing}
use Rattle.std.specs.Prelude as prelude
use Rattle.if1_graph.specs.declared.graph.Edge.{Edge}
use Rattle.if1_graph.specs.declared.graph.Graph.{Graph}
use Rattle.if1_graph.specs.declared.graph.Graph.TheViews.{out-Graph}
use Rattle.if1_graph.specs.declared.graph.Node.{Node, out-Node}
use Rattle.if1_graph.specs.declared.graph.Origin.{Origin}
use Rattle.if1_graph.specs.declared.graph.Unit1.{Unit1}
use Rattle.if1_graph.specs.declared.op.Compound.{Compound}
use Rattle.if1_graph.specs.declared.op.Simple.{Simple}
use Rattle.if1_graph.specs.Normal.{Precedes}
use Rattle.if1_graph.specs.Ops.{simple_at, compound_at}
use Rattle.if1_graph.specs.Ports.{text_of}
use Rattle.if1_graph.specs.Tables.{◌>>=◌}
use Rattle.if1_graph.specs.Units.{label_of, edges_into, levels, level_below, Inside, Place, each_from, places_of}
use Rattle.if1_order.specs.Within.{IsPart}
use Rattle.if1_marks.specs.Given.{inside, is_consuming, is_consumed_by, consumes_node, is_call_as}
use Rattle.if1_marks.specs.Given as given
use Rattle.if1_marks.specs.Owned.{is_owned}
use Rattle.marks_made.specs.Units.{is_candidate}
use Rattle.may_take.specs.declared.around.Around.{Around}
use Rattle.may_take.specs.declared.flags.Asked.{Asked}
use Rattle.may_take.specs.declared.flags.Asked.TheVariants as asked
use Rattle.may_take.specs.declared.functions.Functions.{Functions}
use Rattle.may_take.specs.declared.looking.Looked.{Looked}
use Rattle.may_take.specs.declared.looking.LookedNodes.{LookedNodes}
use Rattle.may_take.specs.declared.uses.NodeUse.{NodeUse}
use Rattle.may_take.specs.declared.uses.NodeUse.TheVariants as how
use Rattle.may_take.specs.Ports.{inside_by}
use Rattle.may_take.specs.Around.{IsAroundOf}
use Rattle.may_take.specs.Owned.{Stand, InNode, Elsewhere}
use Rattle.may_take.specs.Uses.{is_consumed_inside, is_consumed, place_in, Tells}

-- ---- flags

-- of each edge of the graph, whether it may take
abbrev pub flags_at : Unit1 → Place → List Bool
flags_at u p = map (is_candidate u p) (out-Graph p.graph).edges

-- of each edge of the graph, whether the port that it comes from is owned
abbrev pub owned_at : Unit1 → Place → List Bool
owned_at u p = map (λ e. is_owned u p e.from) (out-Graph p.graph).edges

abbrev pub does_ask : Asked → Bool
does_ask asked.Nothing = false
does_ask _ = true

-- it is asked of an edge that consumes, or does not
abbrev pub is_asked : Asked → Bool → Bool
is_asked asked.Nothing consumes = false
is_asked asked.Consuming consumes = consumes
is_asked asked.All consumes = true

-- of each edge of the graph, whether it is asked for and comes from an owned port
abbrev pub flags_by : Asked → Unit1 → Place → List Bool
flags_by a u p = map (λ e. is_asked a (is_consuming u p.graph e) && is_owned u p e.from) (out-Graph p.graph).edges

-- the places in the graphs of a node
abbrev pub node_places : ℕ → Graph → Node → List Place
node_places more g n = each_from (λ k s. places_of more (Inside g n k) s) 0 (out-Node n).subs

-- the places inside a graph, without its own
abbrev pub inner_places : ℕ → Graph → List Place
inner_places zero g = []
inner_places (suc more) g = flat_map (node_places more g) (out-Graph g).nodes

-- ---- order

pub record IsLaid (g : Graph) : Type 0 where
  pub labels : IsStrictlyIncreasing (map label_of (out-Graph g).nodes)
  pub edges : prelude.AllPairs Precedes (out-Graph g).edges

abbrev pub IsLaidInside : Graph → Type 0
IsLaidInside g = (h : Graph) → IsPart g h → IsLaid h

abbrev pub AreLaid : List Graph → Type 0
AreLaid gs = (g : Graph) → prelude.Contains gs g → IsLaidInside g

-- ---- one node

-- the text of the literal at port 1 among edges into a node
abbrev pub named_in : List Edge → Option (List ℕ)
named_in es = find (λ e. e.port == 1) es >>= λ e. text_of e.from

-- the place of the function that an origin names
abbrev pub named_place : Functions → Origin → Option ℕ
named_place f from = text_of from >>= place_in f

abbrev pub callee_in : Functions → List Edge → Option ℕ
callee_in f es = named_in es >>= place_in f

abbrev pub is_call_of : Simple → Bool
is_call_of op = is_call_as None (Some op)

abbrev pub simple_use : Functions → List Edge → Option Simple → NodeUse
simple_use f es (Some op) = if is_call_of op then how.Call (callee_in f es) else how.Simple op
simple_use f es None = how.Nothing

-- what is known of a node of this compound, or of none
abbrev pub IsUseAs : Functions → Graph → Node → List given.Inside → Option Compound → NodeUse → Type 0
IsUseAs f g n is (Some c) h = (a : Around) × IsAroundOf c (edges_into g (label_of n)) (out-Node n).subs is a × (h ≡ how.Compound a)
IsUseAs f g n is None h = h ≡ simple_use f (edges_into g (label_of n)) (simple_at (out-Node n).op)

abbrev pub IsUse : Functions → Graph → Node → List given.Inside → NodeUse → Type 0
IsUse f g n is h = IsUseAs f g n is (compound_at (out-Node n).op) h

-- where the graph at a place in the node stands
abbrev pub stand_in : NodeUse → ℕ → Stand
stand_in (how.Compound a) place = InNode a place
stand_in _ place = Elsewhere

-- ---- graphs

pub record IsLooked (u : Unit1) (f : Functions) (g : Graph) (r : Looked) : Type 0 where
  pub inputs : inside_by r.inputs ≡ inside u.types g
  pub fit : length r.consuming ≡ length (out-Graph g).edges
  pub consuming : Tells u f → r.consuming ≡ map (is_consuming u g) (out-Graph g).edges
  pub inside : Tells u f → IsTrue (does_ask f.asked) → (more : ℕ) → levels g ≤ more → r.inside.items ≡ map (flags_by f.asked u) (inner_places more g)

pub record AreLooked (u : Unit1) (f : Functions) (gs : List Graph) (rs : List Looked) : Type 0 where
  pub fit : length rs ≡ length gs
  pub each : (k : ℕ) (g : Graph) (r : Looked) → slice_get gs k ≡ Some g → slice_get rs k ≡ Some r → IsLooked u f g r

abbrev pub node_levels : Node → ℕ
node_levels n = level_below (map levels (out-Node n).subs)

-- of some nodes of a graph
pub record AreNodesLooked (u : Unit1) (f : Functions) (g : Graph) (ns : List Node) (r : LookedNodes) : Type 0 where
  pub inner : map is_consumed_inside r.uses.items ≡ map (is_consumed_by u) ns
  pub uses : Tells u f → map (is_consumed f.inputs.items) r.uses.items ≡ map (λ n. consumes_node u g (Some n)) ns
  pub inside : Tells u f → IsTrue (does_ask f.asked) → (more : ℕ) → All (λ n. node_levels n ≤ suc more) ns → r.inside.items ≡ map (flags_by f.asked u) (flat_map (node_places more g) ns)
