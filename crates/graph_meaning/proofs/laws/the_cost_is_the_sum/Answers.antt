use Rattle.graph_meaning.proofs.Theorems.{cost-the-sum}
use Rattle.graph_meaning.proofs.laws.the_cost_is_the_sum.Goals as goal

pub returns : goal.returns
returns c = cost-the-sum
