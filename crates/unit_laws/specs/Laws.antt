-- The laws of what whole units mean.
use Rattle.std.specs.Prelude.{◌≡◌, ◌≢◌, ℕ, Bool, true, List, Some, None, Contains}
use Rattle.if1_graph.specs.declared.graph.Graph.TheViews.{out-Graph}
use Rattle.if1_graph.specs.declared.graph.Node.{Node, out-Node}
use Rattle.if1_graph.specs.declared.graph.Unit1.{Unit1}
use Rattle.if1_graph.specs.declared.op.Simple.{Simple}
use Rattle.if1_graph.specs.declared.op.Simple.TheVariants as simple
use Rattle.if1_graph.specs.Ops.{simple_at, compound_at}
use Rattle.if1_graph.specs.Ready.{IsReady}
use Rattle.if1_graph.specs.Types.{Sort}
use Rattle.if1_graph.specs.Units.{Place, places, number_of}
use Rattle.if1_marks.specs.Alike.{AreAlike}
use Rattle.graph_meaning.specs.Carried.{Carried}
use Rattle.graph_meaning.specs.Demand.{Source, Network}
use Rattle.graph_meaning.specs.Networks.{source_at, kind_of, vertex_of, network}
use Rattle.graph_meaning.specs.Plain.{Carries, CarryAll, Outputs, Means, Costs}
use Rattle.unit_laws.specs.Entering.{IsEnteredFrom}
use Rattle.unit_laws.specs.Grown.{AreKept, IsGrown}
use Rattle.unit_laws.specs.Typed.{Belongs, InputsBelong, IsEntered, ResultsBelong, NodeGives, OperandsFit, typed_at}

-- ---- marks

-- units that differ in marks alone mean the same
abbrev pub AreAlikeMeant : Type 0
AreAlikeMeant = (u v : Unit1) → AreAlike u v → (n g : ℕ) (ins rs : List Carried) → Means (network u) n g ins rs → Means (network v) n g ins rs

-- and cost the same
abbrev pub AreAlikeCosted : Type 0
AreAlikeCosted = (u v : Unit1) → AreAlike u v → (n g : ℕ) (ins : List Carried) (c : ℕ) → Costs (network u) n g ins c → Costs (network v) n g ins c

-- ---- types

-- Of each graph of a ready unit, on inputs that belong to their types:

-- what a port of a node or of the boundary carries belongs to the type of the edge into it
abbrev pub ArePortsTyped : Type 0
ArePortsTyped = (u : Unit1) → IsReady u → (p : Place) → Contains (places u) p → (n : ℕ) (ins : List Carried) → InputsBelong u p ins
    → (l port : ℕ) (s : Sort) → typed_at u p.graph l port ≡ Some s → (c : Carried) → Carries (network u) n (number_of p) ins (source_at u p.graph l port) c → Belongs s c

-- each node, simple or compound, has as many outputs as it is to have, each of the type of the edges that leave it
abbrev pub AreNodesTyped : Type 0
AreNodesTyped = (u : Unit1) → IsReady u → (p : Place) → Contains (places u) p → (n : ℕ) (ins : List Carried) → InputsBelong u p ins
    → (m : Node) → Contains (out-Graph p.graph).nodes m → (ks rs : List Carried) → CarryAll (network u) n (number_of p) ins (vertex_of u p.graph m).ins ks → Outputs (network u) n (kind_of u p.graph m) ks rs → NodeGives u p m rs

-- and so have the graph's results
abbrev pub AreResultsTyped : Type 0
AreResultsTyped = (u : Unit1) → IsReady u → (p : Place) → Contains (places u) p → (n : ℕ) (ins : List Carried) → InputsBelong u p ins → (rs : List Carried) → Means (network u) n (number_of p) ins rs → ResultsBelong u p rs

-- what is carried into a simple node other than a Call fits its row
abbrev pub AreOperandsFit : Type 0
AreOperandsFit = (u : Unit1) → IsReady u → (p : Place) → Contains (places u) p → (n : ℕ) (ins : List Carried) → InputsBelong u p ins
    → (m : Node) → Contains (out-Graph p.graph).nodes m → (o : Simple) → simple_at (out-Node m).op ≡ Some o → compound_at (out-Node m).op ≡ None → o ≢ simple.Call
    → (ks : List Carried) → CarryAll (network u) n (number_of p) ins (vertex_of u p.graph m).ins ks → OperandsFit u p m o ks

-- ---- growth

-- what a graph means and costs is not changed by graphs that are added
pub record IsKeptAsBefore (u v : Network) (g : ℕ) : Type 0 where
  pub means : (n : ℕ) (ins rs : List Carried) → Means u n g ins rs → Means v n g ins rs
  pub costs : (n : ℕ) (ins : List Carried) (c : ℕ) → Costs u n g ins c → Costs v n g ins c

abbrev pub AreGraphsKept : Type 0
AreGraphsKept = (P : ℕ → Bool) (u v : Network) → AreKept P u v → (g : ℕ) → P g ≡ true → IsKeptAsBefore u v g

-- what a port of a graph carries is not changed by nodes that are added to it
abbrev pub ArePortsKept : Type 0
ArePortsKept = (P : ℕ → Bool) (u v : Network) → AreKept P u v → (g : ℕ) → IsGrown P u v g → (n : ℕ) (ins : List Carried) (o : Source) (c : Carried) → Carries u n g ins o c → Carries v n g ins o c

-- ---- along a run

-- in a ready unit, on inputs of its types, each graph that a run enters, at any depth, is one of the unit, on inputs of its types;
-- so the laws of types speak of it too
abbrev pub AreEnteredTyped : Type 0
AreEnteredTyped = (u : Unit1) → IsReady u → (p : Place) → Contains (places u) p → (n : ℕ) (ins : List Carried) → InputsBelong u p ins
    → (k : ℕ) (others : List Carried) → IsEnteredFrom (network u) n (number_of p) ins k others → IsEntered u k others
