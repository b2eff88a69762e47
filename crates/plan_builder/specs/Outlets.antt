-- Where the outputs of the nodes of a graph stand, behind the first cell of its nodes.
use Rattle.std.specs.Prelude.{◌≡◌, ℕ, ◌+◌, ◌-◌, ◌^◌, ◌<◌, ◌≤◌, ◌↔◌, eqb, if◌then◌else◌, List, [], ◌∷◌, length, slice_index, Contains}
use Rattle.std.specs.List.Sorted.{IsStrictlyIncreasing}
use Rattle.graph_meaning.specs.Demand.{Vertex}
use Rattle.run_code.specs.Made.{Plan}
use Rattle.if1_order.specs.Feeders.{IsPlace}
use Rattle.plan_builder.specs.declared.outlets.Outlets.{Outlets}

-- so many outputs have the nodes at these places
abbrev pub cells_of : (widths order : List ℕ) → ℕ
cells_of ws [] = 0
cells_of ws (o ∷ os) = slice_index ws o + cells_of ws os

-- so many of them stand before those of the node at a place
abbrev pub start_of : (widths order : List ℕ) → (place : ℕ) → ℕ
start_of ws [] k = 0
start_of ws (o ∷ os) k = if eqb o k then 0 else slice_index ws o + start_of ws os k

-- a table of these by places; the outputs can be counted
pub record AreStarts (widths order starts : List ℕ) : Type 0 where
  pub here : (k : ℕ) → Contains order k → slice_index starts k ≡ start_of widths order k
  pub fits : (k : ℕ) → Contains order k → slice_index starts k + slice_index widths k ≤ 2 ^ 32 - 1
  pub long : length starts ≡ length widths

pub record AreOutlets (x : Outlets) : Type 0 where
  pub rising : IsStrictlyIncreasing x.labels
  pub long : length x.widths ≡ length x.labels
  pub inside : (k : ℕ) → Contains x.order k ↔ (k < length x.labels)
  pub starts : AreStarts x.widths x.order x.starts

-- the node of this label is there, and has an output of this number, from 1
abbrev pub IsOutlet : Outlets → (node port : ℕ) → Type 0
IsOutlet x l p = (k : ℕ) × IsPlace x.labels k l × (1 ≤ p) × (p ≤ slice_index x.widths k)

-- these nodes are those at these places, with their labels and so many outputs
abbrev pub AreNodesAt : Plan → Outlets → (order : List ℕ) → List Vertex → Type 0
AreNodesAt P x [] [] = Unit {0}
AreNodesAt P x (o ∷ os) (v ∷ vs) = (v.label ≡ slice_index x.labels o) × (P.width v ≡ slice_index x.widths o) × AreNodesAt P x os vs
AreNodesAt P x _ _ = ⊥

abbrev pub AreLaid : Plan → Outlets → List Vertex → Type 0
AreLaid P x vs = AreNodesAt P x x.order vs
