use Rattle.graph_meaning.proofs.Outputs.{outputs-counted}
use Rattle.graph_meaning.proofs.laws.outputs_are_counted.Goals as goal

pub returns : goal.returns
returns c = outputs-counted
