use Rattle.run_made.proofs.Orders.{orders-readable}
use Rattle.run_made.proofs.laws.orders_are_readable.Goals as goal

pub returns : goal.returns
returns c = orders-readable
