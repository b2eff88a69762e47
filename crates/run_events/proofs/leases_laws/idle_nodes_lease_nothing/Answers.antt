use Rattle.run_events.proofs.Same.{idle-nothing}
use Rattle.run_events.proofs.leases_laws.idle_nodes_lease_nothing.Goals as goal

pub returns : goal.returns
returns c = idle-nothing
