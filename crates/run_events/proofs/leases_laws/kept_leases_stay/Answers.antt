use Rattle.run_events.proofs.Scattered.{scatters-kept-on}
use Rattle.run_events.proofs.leases_laws.kept_leases_stay.Goals as goal

pub returns : goal.returns
returns c = scatters-kept-on
