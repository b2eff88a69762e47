use Rattle.run_states.proofs.Leasing.{leases-moved}
use Rattle.run_states.proofs.laws.leases_change_by_one_node.Goals as goal

pub returns : goal.returns
returns c = leases-moved
