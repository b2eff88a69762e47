use Rattle.unit_orders.proofs.Listed.{fires, one-more, all-done}
use Rattle.unit_orders.proofs.orders.orders_by.Goals as goal

pub firing_order-requires-clause-rising : goal.firing_order-requires-clause-rising
firing_order-requires-clause-rising c =
    (fires c.args.graphs.now c.loop-graph.graph-index c.graph-item.result c.loop-graph-test.true c.graph-item.is c.requires).rising

pub firing_order-requires-clause-acyclic : goal.firing_order-requires-clause-acyclic
firing_order-requires-clause-acyclic c =
    (fires c.args.graphs.now c.loop-graph.graph-index c.graph-item.result c.loop-graph-test.true c.graph-item.is c.requires).acyclic

pub loop-graph-preserved : goal.loop-graph-preserved
loop-graph-preserved c =
    one-more c.args.graphs.now c.loop-graph.graph-index c.graph-item.result c.loop-graph-test.true c.graph-item.is c.loop-graph.orders.items c.push-in-loop-graph.new.self.items c.in_ok-order.order
    c.loop-graph.invariant c.in_ok-order.ensures c.in_ok-push-2.ensures.items

pub returns : goal.returns
returns c = all-done c.args.graphs.now c.loop-graph.orders.items c.loop-graph.graph-index c.loop-graph-test.false c.loop-graph.invariant
