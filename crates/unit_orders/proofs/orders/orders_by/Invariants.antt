use Rattle.mark_check.specs.Graphs.{lent}
use Rattle.unit_orders.specs.Orders.{AreFirstOrders}
use Rattle.unit_orders.proofs.orders.orders_by.Given as goal

abbrev pub invariant-loop-graph : goal.invariant-loop-graph
invariant-loop-graph l = AreFirstOrders (lent l.graphs) l.graph-index l.orders.items
