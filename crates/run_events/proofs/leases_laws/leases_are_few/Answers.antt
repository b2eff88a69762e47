use Rattle.run_events.proofs.Few.{leases-few}
use Rattle.run_events.proofs.leases_laws.leases_are_few.Goals as goal

pub returns : goal.returns
returns c = leases-few
