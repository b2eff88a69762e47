use Rattle.run_code.proofs.Collecting.{nodes-same}
use Rattle.run_code.proofs.laws.nodes_give_the_same_on_collections.Goals as goal

pub returns : goal.returns
returns c = nodes-same
