-- What an iteration of a ForAll reads: the operands of the node, and one element of each multiple.
use Rattle.std.specs.Prelude.{◌≡◌, ℕ, false, List, ◌∷◌, ◌++◌, slice_get, Some}
use Rattle.flow_value.specs.declared.value.Val.{Val}
use Rattle.if1_graph.specs.declared.graph.Graph.{Graph}
use Rattle.if1_graph.specs.declared.graph.Node.{Node, out-Node}
use Rattle.if1_graph.specs.declared.graph.Origin.TheVariants as origin
use Rattle.if1_graph.specs.declared.graph.Unit1.{Unit1}
use Rattle.if1_graph.specs.declared.op.Compound.TheVariants as compound
use Rattle.if1_graph.specs.Ops.{compound_at}
use Rattle.if1_graph.specs.Units.{Inside}
use Rattle.if1_marks.specs.Owned.{is_owned}
use Rattle.graph_meaning.specs.Carried.{Carried, Value}
use Rattle.graph_meaning.specs.Forms.{Form, Iterate, items}
use Rattle.graph_meaning.specs.Demand.{Network}
use Rattle.run_states.specs.Phases.{Comes}

-- the iteration at this place has, behind the operands, the element of each multiple at the place
pub record IsIteration (ks ms : List Carried) (place : ℕ) (ins : List Carried) : Type 0 where
  pub own : List Carried
  pub inputs : ins ≡ ks ++ own
  pub element : (i : ℕ) (m : Carried) → slice_get ms i ≡ Some m → (v : Val) × (slice_get (items m) place ≡ Some v) × (slice_get own i ≡ Some (Value v))

abbrev pub AreIterationsTold : Type 0
AreIterationsTold = (u : Network) (form : Form) (ks : List Carried) (k h : ℕ) (row : List Carried) (rows : List (List Carried)) (ms : List Carried) → Comes u form ks k (Iterate h row rows ms)
    → (place : ℕ) (ins : List Carried)
    → slice_get (row ∷ rows) place ≡ Some ins
    → IsIteration ks ms place ins

-- and it owns none of these: so what the private graphs of a slice take they have made
abbrev pub DoIterationsLook : Type 0
DoIterationsLook = (u : Unit1) (outer g : Graph) (n : Node) (port : ℕ) → compound_at (out-Node n).op ≡ Some compound.ForAll
    → is_owned u (record { graph = g; home = Inside outer n 1 }) (origin.Port 0 port) ≡ false
