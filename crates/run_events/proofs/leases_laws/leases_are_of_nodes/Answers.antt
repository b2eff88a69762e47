use Rattle.run_events.proofs.Leases.{of-nodes}
use Rattle.run_events.proofs.leases_laws.leases_are_of_nodes.Goals as goal

pub returns : goal.returns
returns c = of-nodes
