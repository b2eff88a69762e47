use Rattle.run_events.proofs.Sums.{sum-moved}
use Rattle.run_events.proofs.leases_laws.sums_change_by_one_node.Goals as goal

pub returns : goal.returns
returns c = sum-moved
