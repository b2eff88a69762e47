use Rattle.unit_whole.proofs.Seen.{nodes-seen}
use Rattle.unit_whole.proofs.whole_laws.nodes_of_units_are_seen.Goals as goal

pub returns : goal.returns
returns c = nodes-seen
