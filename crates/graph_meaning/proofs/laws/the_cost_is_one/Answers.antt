use Rattle.graph_meaning.proofs.SumsOnce.{cost-one}
use Rattle.graph_meaning.proofs.laws.the_cost_is_one.Goals as goal

pub returns : goal.returns
returns c = cost-one
