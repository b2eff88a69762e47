-- Orders of the nodes of each graph of a unit, by the numbers of the graphs.
use Rattle.std.specs.Prelude.{◌≡◌, ℕ, suc, ◌<◌, ◌≤◌, List, [], length, slice_get, slice_index_or, Some, Contains}
use Rattle.std.specs.List.Sorted.{IsStrictlyIncreasing}
use Rattle.if1_graph.specs.declared.graph.Graph.{Graph}
use Rattle.if1_graph.specs.declared.graph.Unit1.{Unit1}
use Rattle.if1_graph.specs.Units.{Place, number_of, places}
use Rattle.if1_order.specs.Orders.{node_labels}
use Rattle.if1_marks.specs.Orders.{Precedes}
use Rattle.firing_order.specs.Orders.{IsFiringOrder}

-- nodes by rising label, where edges and ordering lists together lead from no node to itself
pub record CanFire (g : Graph) : Type 0 where
  pub rising : IsStrictlyIncreasing (node_labels g)
  pub acyclic : (l : ℕ) → ¬ Precedes g l l

-- behind a first list, the lists of so many of the graphs
pub record AreFirstOrders (gs : List Graph) (n : ℕ) (os : List (List ℕ)) : Type 0 where
  pub within : n ≤ length gs
  pub fit : length os ≡ suc n
  pub each : (k : ℕ) (g : Graph) → k < n → slice_get gs k ≡ Some g → IsFiringOrder g (slice_index_or os (suc k) [])

abbrev pub AreOrdersOf : List Graph → List (List ℕ) → Type 0
AreOrdersOf gs os = AreFirstOrders gs (length gs) os

-- of each graph of the unit, the list of its number is an order of its nodes
abbrev pub AreFiringOrders : Unit1 → List (List ℕ) → Type 0
AreFiringOrders u os = (p : Place) → Contains (places u) p → IsFiringOrder p.graph (slice_index_or os (number_of p) [])
