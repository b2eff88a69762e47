-- The first fault of the marks of a unit: labels on ordering lists first, then edges that take.
use Rattle.std.specs.Prelude.{◌≡◌, ℕ, ◌⊎◌, All, Contains}
use Rattle.if1_graph.specs.declared.fault.If1Fault.{If1Fault}
use Rattle.if1_graph.specs.declared.fault.If1Fault.TheVariants as fault
use Rattle.if1_graph.specs.declared.graph.Edge.{Edge}
use Rattle.if1_graph.specs.declared.graph.Graph.TheViews.{out-Graph}
use Rattle.if1_graph.specs.declared.graph.Unit1.{Unit1}
use Rattle.if1_graph.specs.Units.{Place, places, number_of}
use Rattle.mark_check.specs.Entries.{IsWrong, IsFirst, entries}
use Rattle.mark_check.specs.Takers.{IsWrongTaker, IsFirstTaker}
use Rattle.mark_check.specs.declared.marks.MarkFault.{MarkFault}
use Rattle.mark_check.specs.declared.marks.MarkFault.TheVariants.{BadMark, NoMemory}

-- a label on an ordering list of the graph is wrong
abbrev pub HasWrongEntry : Place → Type 0
HasWrongEntry p = (at : ℕ × ℕ) × Contains (entries (out-Graph p.graph).nodes) at × IsWrong p.graph at

-- an edge of the graph takes that may not
abbrev pub HasWrongTaker : Unit1 → Place → Type 0
HasWrongTaker u p = (e : Edge) × Contains (out-Graph p.graph).edges e × IsWrongTaker u p e

-- the first wrong label on an ordering list in the first graph that has one, with the node on whose list it stands
pub record IsListFault (u : Unit1) (graph node port reader : ℕ) : Type 0 where
  pub place : Place
  pub first : IsFirst HasWrongEntry (places u) place
  pub entry : IsFirst (IsWrong place.graph) (entries (out-Graph place.graph).nodes) (node, reader)
  pub number : number_of place ≡ graph
  pub no_port : port ≡ 0

-- no label is wrong, and in the first graph where an edge takes that may not this is where the first one ends, and who is to blame
pub record IsTakerFault (u : Unit1) (graph node port reader : ℕ) : Type 0 where
  pub lists : All (λ p. ¬ HasWrongEntry p) (places u)
  pub place : Place
  pub first : IsFirst (HasWrongTaker u) (places u) place
  pub taker : IsFirstTaker u place (record { node = node; port = port; reader = reader })
  pub number : number_of place ≡ graph

abbrev pub IsListFaultAs : Unit1 → MarkFault → Type 0
IsListFaultAs u (BadMark graph node port reader) = IsListFault u graph node port reader
IsListFaultAs u NoMemory = Unit {0}

abbrev pub IsTakerFaultAs : Unit1 → MarkFault → Type 0
IsTakerFaultAs u (BadMark graph node port reader) = IsTakerFault u graph node port reader
IsTakerFaultAs u NoMemory = Unit {0}

-- of all faults this one comes first
abbrev pub IsFirstFault : Unit1 → MarkFault → Type 0
IsFirstFault u (BadMark graph node port reader) = IsListFault u graph node port reader ⊎ IsTakerFault u graph node port reader
IsFirstFault u NoMemory = Unit {0}

abbrev pub IsBad : MarkFault → Type 0
IsBad (BadMark graph node port reader) = Unit {0}
IsBad NoMemory = ⊥

-- as a fault of an IF1 text
abbrev pub as_fault : MarkFault → If1Fault
as_fault (BadMark graph node port reader) = fault.Marks graph node port reader
as_fault NoMemory = fault.NoMemory
