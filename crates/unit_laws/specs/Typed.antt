-- Values and multiples that belong to the type of an edge.
use Rattle.std.specs.Prelude.{◌≡◌, ℕ, suc, true, List, length, get_or, Option, Some, None, Contains}
use Rattle.std.specs.List.{list_all}
use Rattle.flow_value.specs.declared.cause.Cause.{Cause}
use Rattle.flow_value.specs.Well.{is_well}
use Rattle.if1_graph.specs.declared.graph.Edge.{Edge}
use Rattle.if1_graph.specs.declared.graph.Graph.{Graph}
use Rattle.if1_graph.specs.declared.graph.Graph.TheViews.{out-Graph}
use Rattle.if1_graph.specs.declared.graph.Node.{Node}
use Rattle.if1_graph.specs.declared.graph.Origin.TheVariants.{Port}
use Rattle.if1_graph.specs.declared.graph.Unit1.{Unit1}
use Rattle.if1_graph.specs.declared.op.Simple.{Simple}
use Rattle.if1_graph.specs.declared.row.Want.{Want}
use Rattle.if1_graph.specs.declared.row.Want.TheVariants as want
use Rattle.if1_graph.specs.Formed.{want_at}
use Rattle.if1_graph.specs.Ports.{carried, outputs}
use Rattle.if1_graph.specs.Types.{Sort, sort_at}
use Rattle.if1_graph.specs.Types as types
use Rattle.if1_graph.specs.Typing.{FitsInput}
use Rattle.if1_graph.specs.Units.{label_of, results, Place, places}
use Rattle.graph_meaning.specs.Carried.{Carried, Value, Many, Spoiled, Unfilled}
use Rattle.graph_meaning.specs.Networks.{shape_of, net_of, network}
use Rattle.graph_meaning.specs.NodeValues.{op}
use Rattle.graph_meaning.specs.Strict.{IsFit, first_strict, AreErrors}
use Rattle.typed_rows.specs.Rows.{Of}

-- A value of the type, or a multiple of values of its element type, which may be an error. Of the names of functions, which are no
-- values, nothing is said.
abbrev pub Belongs : Sort → Carried → Type 0
Belongs (types.Plain t) (Value v) = Of t v
Belongs (types.Many t) (Many vs) = list_all (is_well t) vs ≡ true
Belongs (types.Many t) (Spoiled c) = Unit {0}
Belongs (types.Function args rs) c = Unit {0}
Belongs _ _ = ⊥

-- what stands at each place, from 0, belongs to the type that is known there
abbrev pub Fills : (ℕ → Option Sort) → List Carried → Type 0
Fills types cs = (i : ℕ) (s : Sort) → types i ≡ Some s → Belongs s (get_or cs i Unfilled)

-- the type of what is carried into a port that takes values, and no name of a function or of a reduction
abbrev pub valued : Option Want → Option Sort → Option Sort
valued (Some want.Function) s = None
valued (Some want.Reduction) s = None
valued _ s = s

abbrev pub typed_at : Unit1 → Graph → (l port : ℕ) → Option Sort
typed_at u g l port = valued (want_at g l port) (carried u g l port)

-- what comes into a graph belongs to the types of its inputs
abbrev pub InputsBelong : Unit1 → Place → List Carried → Type 0
InputsBelong u p ins = (i : ℕ) (s : Sort) → FitsInput u p.graph p.home (suc i) s → Belongs s (get_or ins i Unfilled)

-- The results of a graph: as many as it has, each of the type of the edge to it.
pub record ResultsBelong (u : Unit1) (p : Place) (rs : List Carried) : Type 0 where
  pub long : length rs ≡ results p.graph
  pub fills : Fills (λ i. carried u p.graph 0 (suc i)) rs

-- The outputs of a node: as many as its row or its graphs give, each of the type of every edge that leaves it to a port that takes values.
pub record NodeGives (u : Unit1) (p : Place) (n : Node) (rs : List Carried) : Type 0 where
  pub count : outputs u p.graph n ≡ Some (length rs)
  pub typed : (i : ℕ) (s : Sort) (e : Edge) → Contains (out-Graph p.graph).edges e → e.from ≡ Port (label_of n) (suc i) → valued (want_at p.graph e.node e.port) (sort_at u.types e.ty) ≡ Some s → Belongs s (get_or rs i Unfilled)

-- What is carried into a simple node fits its row, and so the error of the least strict port that carries one is every output.
pub record OperandsFit (u : Unit1) (p : Place) (n : Node) (o : Simple) (ks : List Carried) : Type 0 where
  pub fit : IsFit o ks
  pub least : (c : Cause) → first_strict o 1 ks ≡ Some c → AreErrors c (op o (shape_of u p.graph (label_of n) o) ks)

-- a graph that is entered is one of the unit, on inputs of its types
pub record IsEntered (u : Unit1) (g : ℕ) (ins : List Carried) : Type 0 where
  pub at : Place
  pub there : Contains (places u) at
  pub net : network u g ≡ net_of u at.graph
  pub inputs : InputsBelong u at ins
