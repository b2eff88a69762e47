use Rattle.ordered_meaning.proofs.Same.{units-in-order}
use Rattle.ordered_meaning.proofs.laws.units_mean_the_same_in_order.Goals as goal

pub returns : goal.returns
returns c = units-in-order
