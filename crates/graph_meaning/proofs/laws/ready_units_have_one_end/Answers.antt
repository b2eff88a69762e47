use Rattle.graph_meaning.proofs.Ended.{units-one-end}
use Rattle.graph_meaning.proofs.laws.ready_units_have_one_end.Goals as goal

pub returns : goal.returns
returns c = units-one-end
