use Rattle.graph_meaning.proofs.Theorems.{cost-of-any-cut}
use Rattle.graph_meaning.proofs.laws.the_cost_is_of_any_cut.Goals as goal

pub returns : goal.returns
returns c = cost-of-any-cut
