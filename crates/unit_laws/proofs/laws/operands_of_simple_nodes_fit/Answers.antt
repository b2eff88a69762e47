use Rattle.unit_laws.proofs.TypedStrict.{operands-fit}
use Rattle.unit_laws.proofs.laws.operands_of_simple_nodes_fit.Goals as goal

pub returns : goal.returns
returns c = operands-fit
