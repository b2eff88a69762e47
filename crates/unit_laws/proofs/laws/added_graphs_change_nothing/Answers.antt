use Rattle.unit_laws.proofs.Grown.{graphs-kept}
use Rattle.unit_laws.proofs.laws.added_graphs_change_nothing.Goals as goal

pub returns : goal.returns
returns c = graphs-kept
