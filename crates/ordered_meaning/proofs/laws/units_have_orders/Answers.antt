use Rattle.ordered_meaning.proofs.Same.{units-sorted}
use Rattle.ordered_meaning.proofs.laws.units_have_orders.Goals as goal

pub returns : goal.returns
returns c = units-sorted
