use Rattle.run_events.proofs.Scattered.{takers-free}
use Rattle.run_events.proofs.leases_laws.takers_find_no_lease.Goals as goal

pub returns : goal.returns
returns c = takers-free
