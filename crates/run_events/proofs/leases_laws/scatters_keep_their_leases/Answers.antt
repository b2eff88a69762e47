use Rattle.run_events.proofs.Scattered.{scatters-keep}
use Rattle.run_events.proofs.leases_laws.scatters_keep_their_leases.Goals as goal

pub returns : goal.returns
returns c = scatters-keep
