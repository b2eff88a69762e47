use Rattle.unit_laws.proofs.Grown.{ports-kept}
use Rattle.unit_laws.proofs.laws.added_nodes_change_nothing.Goals as goal

pub returns : goal.returns
returns c = ports-kept
