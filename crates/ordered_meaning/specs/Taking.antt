-- Orders of nodes in which no port is read after it was taken.
use Rattle.std.specs.Prelude.{◌≡◌, ℕ, suc, ◌⊎◌, Bool, true, if◌then◌else◌, List, [], ◌∷◌, Some, Contains}
use Rattle.graph_meaning.specs.Graph.{Graph}
use Rattle.graph_meaning.specs.Unit1.{Unit1}
use Rattle.graph_meaning.specs.Ready.{IsReady}
use Rattle.graph_meaning.specs.Units.{edge_into, Place, places, number_of}
use Rattle.graph_meaning.specs.Sound.{IsSound}
use Rattle.graph_meaning.specs.Forms as form
use Rattle.graph_meaning.specs.Demand.{Source, Port, Fixed, Kind, Whole, Vertex, Net, at_label, WaitsFor, IsOrderly}
use Rattle.graph_meaning.specs.Networks.{network}
use Rattle.graph_meaning.specs.StorageUnits.{takes}
use Rattle.ordered_meaning.specs.Orders.{IsInOrder}

-- whether the edge into a port of a node takes, node 0 for the results of the graph
abbrev pub Marks : Type 0
Marks = (node port : ℕ) → Bool

-- the operands of a Call are its ports from 2 on
abbrev pub first_port : Kind → ℕ
first_port (Whole (form.Call f)) = 2
first_port _ = 1

-- this output fills this port, where the first source is that of the first of these ports
abbrev pub Fills : (port : ℕ) → List Source → (first node output : ℕ) → Type 0
Fills i [] j l p = ⊥
Fills i (o ∷ os) j l p = ((j ≡ i) × (o ≡ Port l p)) ⊎ Fills i os (suc j) l p

-- outputs that were taken, by node and port
abbrev pub Taken : Type 0
Taken = List (ℕ × ℕ)

abbrev pub IsTaken : Taken → (node port : ℕ) → Type 0
IsTaken [] l p = ⊥
IsTaken (t ∷ ts) l p = ((l ≡ t.0) × (p ≡ t.1)) ⊎ IsTaken ts l p

-- with what is taken along these edges
abbrev pub taken_by : (ℕ → Bool) → (first : ℕ) → List Source → Taken → Taken
taken_by takes i [] taken = taken
taken_by takes i (Fixed c ∷ os) taken = taken_by takes (suc i) os taken
taken_by takes i (Port l p ∷ os) taken = if takes i then (l, p) ∷ taken_by takes (suc i) os taken else taken_by takes (suc i) os taken

abbrev pub NoneIsTaken : Taken → List Source → Type 0
NoneIsTaken taken [] = Unit {0}
NoneIsTaken taken (Fixed c ∷ os) = NoneIsTaken taken os
NoneIsTaken taken (Port l p ∷ os) = (IsTaken taken l p → ⊥) × NoneIsTaken taken os

-- what is taken along one of these edges is read along no other
abbrev pub TakesAlone : (ℕ → Bool) → (first : ℕ) → List Source → Type 0
TakesAlone takes first os = (i j l p : ℕ) → Fills i os first l p → takes i ≡ true → Fills j os first l p → i ≡ j

-- No node reads what was taken before or what it takes along another edge, nor do the results.
abbrev pub AreTakersLast : Marks → Taken → List Vertex → (results : List Source) → Type 0
AreTakersLast marks taken [] results = NoneIsTaken taken results × TakesAlone (marks 0) 1 results
AreTakersLast marks taken (v ∷ vs) results =
    NoneIsTaken taken v.ins × TakesAlone (marks v.label) (first_port v.kind) v.ins × AreTakersLast marks (taken_by (marks v.label) (first_port v.kind) v.ins taken) vs results

-- ---- what sound marks say of a graph

-- the node takes this output at this port
pub record IsTakenThere (g : Net) (marks : Marks) (l p : ℕ) (v : Vertex) (i : ℕ) : Type 0 where
  pub node : at_label g.nodes v.label ≡ Some v
  pub labelled : (n : ℕ) × (v.label ≡ suc n)
  pub fills : Fills i v.ins (first_port v.kind) l p
  pub takes : marks v.label i ≡ true

-- Another port that the output fills is one of a node for which the taker waits. A taker waits for no results, so these are none
-- of its ports.
pub record AreMarksSound (g : Net) (marks : Marks) : Type 0 where
  pub last : (l p : ℕ) (v : Vertex) (i : ℕ) → IsTakenThere g marks l p v i
      → (w : Vertex) (j : ℕ) → at_label g.nodes w.label ≡ Some w → Fills j w.ins (first_port w.kind) l p → ((v.label ≡ w.label) × (i ≡ j)) ⊎ WaitsFor g.nodes v.label w.label
  pub no_result : (l p : ℕ) (v : Vertex) (i : ℕ) → IsTakenThere g marks l p v i → (j : ℕ) → Fills j g.results 1 l p → WaitsFor g.nodes v.label 0
  pub alone : TakesAlone (marks 0) 1 g.results

-- ---- laws

-- where marks are sound, each taker is the last user of its port, in every order along data edges and ordering lists
abbrev pub IsTakenLast : Type 0
IsTakenLast = (g : Net) (vs : List Vertex) (marks : Marks) → IsOrderly g → IsInOrder g vs → AreMarksSound g marks → AreTakersLast marks [] vs g.results

-- the marks of a graph of a unit
abbrev pub marks_of : Graph → Marks
marks_of g l port = takes (edge_into g l port)

-- sound marks of a ready unit are sound in each of its graphs
abbrev pub AreUnitMarksSound : Type 0
AreUnitMarksSound = (u : Unit1) (p : Place) → IsReady u → IsSound u → Contains (places u) p → AreMarksSound (network u (number_of p)) (marks_of p.graph)

-- so each taker is the last user of its port there, in every such order
abbrev pub AreUnitTakersLast : Type 0
AreUnitTakersLast = (u : Unit1) (p : Place) (vs : List Vertex) → IsReady u → IsSound u → Contains (places u) p → IsInOrder (network u (number_of p)) vs
    → AreTakersLast (marks_of p.graph) [] vs (network u (number_of p)).results
