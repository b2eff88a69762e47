use Rattle.run_store.proofs.Ports.{nodes-lively-in-order}
use Rattle.run_store.proofs.laws.nodes_are_lively_where_takers_are_last.Goals as goal

pub returns : goal.returns
returns c = nodes-lively-in-order
