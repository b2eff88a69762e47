-- Which port of the graph around it lends an input of a graph.
use Rattle.std.specs.Prelude.{◌≡◌, ℕ, zero, suc, Bool, true, false, List, Contains, Option, Some, None, if◌then◌else◌}
use Rattle.if1_graph.specs.declared.graph.Edge.{Edge}
use Rattle.if1_graph.specs.declared.graph.Graph.{Graph}
use Rattle.if1_graph.specs.declared.graph.Graph.TheViews.{out-Graph}
use Rattle.if1_graph.specs.declared.graph.Node.{Node, out-Node}
use Rattle.if1_graph.specs.declared.graph.Origin.{Origin}
use Rattle.if1_graph.specs.declared.graph.Origin.TheVariants.{Port, Lit}
use Rattle.if1_graph.specs.declared.graph.TypeEntry.{TypeEntry}
use Rattle.if1_graph.specs.declared.graph.Unit1.{Unit1}
use Rattle.if1_graph.specs.declared.op.Part.{Part}
use Rattle.if1_graph.specs.declared.op.Part.TheVariants as part
use Rattle.if1_graph.specs.Ops.{compound_at}
use Rattle.if1_graph.specs.Parts.{part_at}
use Rattle.if1_graph.specs.Tables.{◌>>=◌}
use Rattle.if1_graph.specs.Units.{Home, Function, Inside, Place, edge_into, label_of, places}
use Rattle.if1_marks.specs.Aggregates.{is_aggregate}
use Rattle.if1_marks.specs.Owned.{is_owned}
use Rattle.graph_meaning.specs.Demand.{Port as Out}
use Rattle.graph_meaning.specs.Networks.{source_at}
use Rattle.port_feeds.specs.declared.lenders.Lender.{Lender}

-- the port that an edge leaves; a literal has none
abbrev pub port_left : Origin → Option Lender
port_left (Port l port) = Some (record { node = l; port = port })
port_left (Lit text) = None

-- the port that an edge leaves which carries an aggregate
abbrev pub aggregate_from : List TypeEntry → Option Edge → Option Lender
aggregate_from ts None = None
aggregate_from ts (Some e) = if is_aggregate ts e.ty then port_left e.from else None

abbrev pub unless_owned : (owned : Bool) → Option Lender → Option Lender
unless_owned true o = None
unless_owned false o = o

abbrev pub lender_in : Unit1 → Home → (owned : Bool) → (port : ℕ) → Option Lender
lender_in u (Function k) owned port = None
lender_in u (Inside outer n k) owned port = unless_owned owned (aggregate_from u.types (edge_into outer (label_of n) port))

-- An input of a part of a compound node that does not own what it carries is lent by the port of the graph around the node from which the
-- node's operand at its place comes, where that is an aggregate. Inputs that the node makes for its parts, and those of functions, no port
-- of a graph around lends.
abbrev pub input_lender : Unit1 → Place → (port : ℕ) → Option Lender
input_lender u p port = lender_in u p.home (is_owned u p (Port 0 port)) port

-- what an edge from here carries: outputs of nodes are owned, and literals have no port
abbrev pub edge_lender : Unit1 → Place → Origin → Option Lender
edge_lender u p (Port zero port) = input_lender u p port
edge_lender u p (Port (suc l) port) = None
edge_lender u p (Lit text) = None

-- The port that lends an input is the source of the node's operand at its place, by the network of the unit; and the input is not owned.
pub record IsFedBy (u : Unit1) (outer : Graph) (n : Node) (k port : ℕ) (g : Graph) (x : Lender) : Type 0 where
  pub source : source_at u outer (label_of n) port ≡ Out x.node x.port
  pub lent : is_owned u (record { graph = g; home = Inside outer n k }) (Port 0 port) ≡ false

abbrev pub DoLendersFeed : Type 0
DoLendersFeed = (u : Unit1) (outer : Graph) (n : Node) (k port : ℕ) (g : Graph) (x : Lender) → input_lender u (record { graph = g; home = Inside outer n k }) port ≡ Some x → IsFedBy u outer n k port g x

-- ---- how it is told

-- what the graph at a place in the node is for
abbrev pub part_in : Node → (place : ℕ) → Option Part
part_in n k = compound_at (out-Node n).op >>= λ c. part_at c k

-- the part owns each aggregate that the node consumes
abbrev pub does_own : Option Part → Bool
does_own (Some part.Alternative) = true
does_own (Some part.Arm) = true
does_own (Some part.Initialization) = true
does_own _ = false

-- the node is one of this graph, which is one of the unit's
abbrev pub IsNodeIn : Unit1 → Graph → Node → Type 0
IsNodeIn u g n = (p : Place) × Contains (places u) p × (p.graph ≡ g) × Contains (out-Graph g).nodes n
