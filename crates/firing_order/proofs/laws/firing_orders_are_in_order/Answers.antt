use Rattle.firing_order.proofs.Along.{orders-in-order}
use Rattle.firing_order.proofs.laws.firing_orders_are_in_order.Goals as goal

pub returns : goal.returns
returns c = orders-in-order
