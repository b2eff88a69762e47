-- The laws of firing orders.
use Rattle.std.specs.Prelude.{ℕ, List, Contains}
use Rattle.std.specs.List.Sorted.{IsStrictlyIncreasing}
use Rattle.if1_graph.specs.declared.graph.Unit1.{Unit1}
use Rattle.if1_graph.specs.Normal.{IsNormal}
use Rattle.if1_graph.specs.Ready.{IsReady}
use Rattle.if1_graph.specs.Units.{Place, number_of, places}
use Rattle.if1_marks.specs.Sound.{IsSound}
use Rattle.if1_order.specs.Orders.{node_labels}
use Rattle.graph_meaning.specs.Networks.{network}
use Rattle.unit_plan.specs.OrderedMeaningOrders.{AreInOrder, IsInOrder}
use Rattle.firing_order.specs.Orders.{IsFiringOrder, order_by, vertices_at}

-- the nodes at these places are in order along data edges and ordering lists
abbrev pub AreFiringOrdersInOrder : Type 0
AreFiringOrdersInOrder = (u : Unit1) (p : Place) (os : List ℕ) → IsReady u → IsSound u → Contains (places u) p → IsStrictlyIncreasing (node_labels p.graph) → IsFiringOrder p.graph os → IsInOrder (network u (number_of p)) (vertices_at u p.graph os)

-- so where each graph of the unit has such an order by its number, all are in order
abbrev pub HaveUnitsFiringOrders : Type 0
HaveUnitsFiringOrders = (u : Unit1) (os : (graph : ℕ) → List ℕ) → IsReady u → IsNormal u → IsSound u → ((p : Place) → Contains (places u) p → IsFiringOrder p.graph (os (number_of p))) → AreInOrder (network u) (order_by u os)
