use Rattle.graph_meaning.proofs.Theorems.{runs-confluent}
use Rattle.graph_meaning.proofs.laws.runs_are_confluent.Goals as goal

pub returns : goal.returns
returns c = runs-confluent
