use Rattle.graph_meaning.proofs.Sums.{copies-defined}
use Rattle.graph_meaning.proofs.laws.copies_are_defined_where_the_cost_is.Goals as goal

pub returns : goal.returns
returns c = copies-defined
