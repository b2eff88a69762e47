use Rattle.graph_meaning.proofs.Theorems.{meant-where-costed}
use Rattle.graph_meaning.proofs.laws.values_are_given_where_the_cost_is.Goals as goal

pub returns : goal.returns
returns c = meant-where-costed
