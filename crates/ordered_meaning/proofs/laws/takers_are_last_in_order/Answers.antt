use Rattle.ordered_meaning.proofs.Taking.{taken-last}
use Rattle.ordered_meaning.proofs.laws.takers_are_last_in_order.Goals as goal

pub returns : goal.returns
returns c = taken-last
