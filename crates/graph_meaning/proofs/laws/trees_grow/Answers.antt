use Rattle.graph_meaning.proofs.Theorems.{trees-grow}
use Rattle.graph_meaning.proofs.laws.trees_grow.Goals as goal

pub returns : goal.returns
returns c = trees-grow
