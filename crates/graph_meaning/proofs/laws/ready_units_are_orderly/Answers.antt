use Rattle.graph_meaning.proofs.Units.{units-orderly}
use Rattle.graph_meaning.proofs.laws.ready_units_are_orderly.Goals as goal

pub returns : goal.returns
returns c = units-orderly
