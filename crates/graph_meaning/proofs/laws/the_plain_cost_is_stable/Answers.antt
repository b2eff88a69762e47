use Rattle.graph_meaning.proofs.PlainFires.{plain-cost-stable}
use Rattle.graph_meaning.proofs.laws.the_plain_cost_is_stable.Goals as goal

pub returns : goal.returns
returns c = plain-cost-stable
