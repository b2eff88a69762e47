use Rattle.run_events.proofs.Scattering.{scatters-kept}
use Rattle.run_events.proofs.storage_laws.scattered_leases_are_kept.Goals as goal

pub returns : goal.returns
returns c = scatters-kept
