use Rattle.run_events.proofs.Leases.{slices-counted}
use Rattle.run_events.proofs.leases_laws.slices_are_counted.Goals as goal

pub returns : goal.returns
returns c = slices-counted
