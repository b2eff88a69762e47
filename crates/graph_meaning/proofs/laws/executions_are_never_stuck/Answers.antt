use Rattle.graph_meaning.proofs.Confluent.{never_stuck}
use Rattle.graph_meaning.proofs.laws.executions_are_never_stuck.Goals as goal

pub returns : goal.returns
returns c = never_stuck
