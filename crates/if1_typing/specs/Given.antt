-- What is noted of the outputs of the nodes of a graph.
use Rattle.std.specs.Prelude.{◌≡◌, ◌≢◌, ℕ, suc, ◌&&◌, ◌==◌, nat_eq, Bool, true, false, List, map, Contains, Option, Some, None, IsSome, option_map}
use Rattle.if1_graph.specs.declared.graph.Graph.{Graph}
use Rattle.if1_graph.specs.declared.graph.Graph.TheViews.{out-Graph}
use Rattle.if1_graph.specs.declared.graph.Node.{Node}
use Rattle.if1_graph.specs.declared.graph.Edge.{Edge}
use Rattle.if1_graph.specs.declared.graph.Origin.TheVariants.{Port}
use Rattle.if1_graph.specs.Units.{label_of, node_at, edges_into}
use Rattle.indexmap.specs.IndexMap.{IndexMap, get_by}
use Rattle.if1_typing.specs.declared.given.Callees.{Callees}
use Rattle.if1_typing.specs.declared.given.Given.{Given}
use Rattle.if1_typing.specs.Tables.{Table, number}
use Rattle.if1_typing.specs.Agree.{Leaves}
use Rattle.if1_typing.specs.Fed.{callee_in}
use Rattle.if1_typing.specs.Ends.{node_gives, is_function_name, doing_of}

-- the type of the function that the literal of a node names
abbrev pub callee_at : Table → Graph → ℕ → ℕ
callee_at t g l = callee_in t (edges_into g l)

-- the types of these functions, beside the labels of the nodes
pub record AreCallees (t : Table) (g : Graph) (c : Callees) : Type 0 where
  pub labels : c.labels ≡ map label_of (out-Graph g).nodes
  pub numbers : c.numbers ≡ map (λ n. callee_at t g (label_of n)) (out-Graph g).nodes

-- whether a port of a node gives the type of a number
abbrev pub port_gives : Table → Graph → ℕ → ℕ → ℕ → Bool
port_gives t g l port n = node_gives t g (node_at (out-Graph g).nodes l) port n

-- what is noted at a port
abbrev pub noted_at : {A : Type 0} → IndexMap (ℕ × ℕ) (ℕ × Bool) A → ℕ → ℕ → Option (ℕ × Bool)
noted_at m l port = get_by (λ k. nat_eq l k.0 && nat_eq port k.1) m

-- what is noted is right
abbrev pub IsSound : {A : Type 0} → Table → Graph → IndexMap (ℕ × ℕ) (ℕ × Bool) A → Type 0
IsSound t g m = (l port n : ℕ) (b : Bool) → noted_at m l port ≡ Some (n, b) → b ≡ port_gives t g l port n

-- of each port that edges leave the type of one of them is noted
pub record AreSeen {A : Type 0} (t : Table) (es : List Edge) (m : IndexMap (ℕ × ℕ) (ℕ × Bool) A) : Type 0 where
  pub from : (l port n : ℕ) (b : Bool) → noted_at m (suc l) port ≡ Some (n, b) → (e : Edge) × Leaves es e l port × (number t e.ty ≡ n)
  pub whole : (e : Edge) (l port : ℕ) → Leaves es e l port → IsSome (noted_at m (suc l) port)

-- a note, where there is one, is of a number
abbrev pub is_noted_as : Option (ℕ × Bool) → ℕ → Bool
is_noted_as (Some x) n = x.0 == n
is_noted_as None n = true

-- what is noted of its port is of the type of an edge
abbrev pub IsAsNoted : {A : Type 0} → Table → IndexMap (ℕ × ℕ) (ℕ × Bool) A → Edge → Type 0
IsAsNoted t m e = (l port n : ℕ) (b : Bool) → e.from ≡ Port (suc l) port → noted_at m (suc l) port ≡ Some (n, b) → n ≡ number t e.ty

-- it is of another type
pub record IsApart {A : Type 0} (t : Table) (m : IndexMap (ℕ × ℕ) (ℕ × Bool) A) (e : Edge) : Type 0 where
  pub l : ℕ
  pub port : ℕ
  pub n : ℕ
  pub gives : Bool
  pub from : e.from ≡ Port (suc l) port
  pub noted : noted_at m (suc l) port ≡ Some (n, gives)
  pub differ : n ≢ number t e.ty

pub record AreNoted (t : Table) (g : Graph) (s : Given) : Type 0 where
  pub callees : AreCallees t g s.callees
  pub sound : IsSound t g s.map
  pub seen : AreSeen t (out-Graph g).edges s.map

-- an edge leads from a port that does not give its type, and is no name of a reduction
pub record IsUngiven (t : Table) (g : Graph) (e : Edge) : Type 0 where
  pub node : ℕ
  pub port : ℕ
  pub from : e.from ≡ Port (suc node) port
  pub ungiven : port_gives t g (suc node) port (number t e.ty) ≡ false
  pub no_name : is_function_name t (option_map doing_of (node_at (out-Graph g).nodes e.node)) e ≡ false

-- such an edge leads into a node
pub record LeadsUngiven (t : Table) (g : Graph) (l : ℕ) : Type 0 where
  pub edge : Edge
  pub there : Contains (out-Graph g).edges edge
  pub leads : edge.node ≡ l
  pub ungiven : IsUngiven t g edge
