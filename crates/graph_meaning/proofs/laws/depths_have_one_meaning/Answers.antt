use Rattle.graph_meaning.proofs.PlainValues.{plain-values}
use Rattle.graph_meaning.proofs.laws.depths_have_one_meaning.Goals as goal

pub returns : goal.returns
returns c = plain-values
