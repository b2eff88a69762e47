use Rattle.graph_meaning.proofs.Theorems.{costs-stable}
use Rattle.graph_meaning.proofs.laws.costs_are_stable.Goals as goal

pub returns : goal.returns
returns c = costs-stable
