use Rattle.graph_meaning.proofs.Sums.{sums-defined}
use Rattle.graph_meaning.proofs.laws.sums_are_defined_where_the_cost_is.Goals as goal

pub returns : goal.returns
returns c = sums-defined
