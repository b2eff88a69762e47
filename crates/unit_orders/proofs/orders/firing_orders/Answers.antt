use Rattle.std.proofs.Common.{ap, ◌∙◌, slice_index_or, []}
use Rattle.firing_order.proofs.Along.{units-ordered}
use Rattle.mark_check.specs.Graphs.{lent, unit_graphs}
use Rattle.unit_orders.proofs.Listed.{graphs-fire, unit-orders}
use Rattle.unit_orders.proofs.orders.firing_orders.Goals as goal

pub orders_by-requires : goal.orders_by-requires
orders_by-requires c =
    graphs-fire c.args.unit.now c.unit.ensures.ready c.unit.ensures.normal c.unit.ensures.sound (lent c.as_slice.result.now)
    (ap lent c.as_slice.ensures.value ∙ (c.in_ok-graphs.ensures ∙ ap unit_graphs c.unit.ensures.unit))

pub returns-clause-orders : goal.returns-clause-orders
returns-clause-orders c =
    unit-orders c.args.unit.now c.unit.ensures.ready c.unit.ensures.normal (lent c.as_slice.result.now) c.in_ok-orders.orders.items
    (ap lent c.as_slice.ensures.value ∙ (c.in_ok-graphs.ensures ∙ ap unit_graphs c.unit.ensures.unit)) c.in_ok-orders.ensures

pub returns-clause-in_order : goal.returns-clause-in_order
returns-clause-in_order c =
    units-ordered c.args.unit.now (λ g. slice_index_or c.in_ok-orders.orders.items g []) c.unit.ensures.ready c.unit.ensures.normal c.unit.ensures.sound
    (unit-orders c.args.unit.now c.unit.ensures.ready c.unit.ensures.normal (lent c.as_slice.result.now) c.in_ok-orders.orders.items
    (ap lent c.as_slice.ensures.value ∙ (c.in_ok-graphs.ensures ∙ ap unit_graphs c.unit.ensures.unit)) c.in_ok-orders.ensures)
