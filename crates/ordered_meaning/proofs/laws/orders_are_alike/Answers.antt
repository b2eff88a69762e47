use Rattle.ordered_meaning.proofs.Same.{alike}
use Rattle.ordered_meaning.proofs.laws.orders_are_alike.Goals as goal

pub returns : goal.returns
returns c = alike
