use Rattle.firing_order.proofs.Along.{units-ordered}
use Rattle.firing_order.proofs.laws.units_have_firing_orders.Goals as goal

pub returns : goal.returns
returns c = units-ordered
