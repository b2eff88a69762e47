use Rattle.graph_meaning.proofs.Theorems.{values-stable}
use Rattle.graph_meaning.proofs.laws.values_are_stable.Goals as goal

pub returns : goal.returns
returns c = values-stable
