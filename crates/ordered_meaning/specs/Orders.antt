-- Orders in which the nodes of a graph may fire one after another.
use Rattle.std.specs.Prelude.{◌≡◌, ◌≢◌, ℕ, List, [], ◌∷◌, Some}
use Rattle.graph_meaning.specs.Entered.{IsIn}
use Rattle.graph_meaning.specs.Demand.{Vertex, Net, Network, EachNode, IsLabel, at_label, waits}

-- each node comes after those for which it waits along data edges and ordering lists, and once
abbrev pub IsAlong : (before : List ℕ) → List Vertex → Type 0
IsAlong before [] = Unit {0}
IsAlong before (v ∷ vs) = ((n : ℕ) → IsIn n (waits v) → IsIn n before) × (IsIn v.label before → ⊥) × IsAlong (v.label ∷ before) vs

-- These are the nodes of the graph, all of them, in such an order. Label 0 is that of the graph's inputs.
pub record IsInOrder (net : Net) (vs : List Vertex) : Type 0 where
  pub nodes : EachNode (λ v. (v.label ≢ 0) × (at_label net.nodes v.label ≡ Some v)) vs
  pub all : (n : ℕ) → IsLabel net.nodes n → IsLabel vs n
  pub along : IsAlong [] vs

abbrev pub AreInOrder : Network → (order : (graph : ℕ) → List Vertex) → Type 0
AreInOrder u order = (g : ℕ) → IsInOrder (u g) (order g)
