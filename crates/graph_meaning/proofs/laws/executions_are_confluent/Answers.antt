use Rattle.graph_meaning.proofs.Confluent.{confluent}
use Rattle.graph_meaning.proofs.laws.executions_are_confluent.Goals as goal

pub returns : goal.returns
returns c = confluent
