use Rattle.run_events.proofs.Same.{leases-same}
use Rattle.run_events.proofs.leases_laws.unread_ports_lease_the_same.Goals as goal

pub returns : goal.returns
returns c = leases-same
