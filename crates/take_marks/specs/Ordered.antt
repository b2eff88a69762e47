-- The ordering edges that come with the mark of one taker.
use Rattle.std.specs.Prelude.{ℕ, ◌<◌, ◌≤◌, Bool, List, length, slice_index}
use Rattle.std.specs.List.Sorted.{IsStrictlyIncreasing}
use Rattle.if1_graph.specs.declared.graph.Edge.{Edge}
use Rattle.if1_graph.specs.declared.graph.Graph.{Graph}
use Rattle.if1_order.specs.Orders.{node_labels}
use Rattle.if1_order.specs.Walks.{Lists}
use Rattle.if1_order.specs.Feeders.{IsPlace}
use Rattle.if1_reach.specs.Nets.{AreLinked}
use Rattle.marks_made.specs.Made.{Orders, links, ordered}
use Rattle.marks_made.specs.Laws.{IsMarkable, IsReadyToOrder}
use Rattle.take_marks.specs.Standing.{Stands, ArePlaces, AreRising, top}

-- what is asked of a taker at a place and of its other users at theirs
pub record AreUsers (g : Graph) (os : Orders) (ls places : List ℕ) (t taker : ℕ) : Type 0 where
  pub rising : IsStrictlyIncreasing (node_labels g)
  pub linked : AreLinked (node_labels g) (links g os)
  pub at : IsPlace (node_labels g) t taker
  pub are : ArePlaces (node_labels g) ls places
  pub up : AreRising ls
  pub few : (k : ℕ) → k < length ls → slice_index ls k ≤ top
  pub ready : IsReadyToOrder g os taker ls

-- the lists have the ordering edges of the marks made
abbrev pub AreOrdered : List ℕ → List ℕ → ℕ → Lists → List (List ℕ) → Lists → List (List ℕ) → Type 0
AreOrdered ls places t old oldest new newest =
    (g : Graph) (may : Edge → Bool) (os : Orders) (taker : ℕ) → IsMarkable g may → AreUsers g os ls places t taker → Stands g os old oldest → Stands g (ordered g taker ls os) new newest
