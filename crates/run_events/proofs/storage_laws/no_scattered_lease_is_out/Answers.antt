use Rattle.run_events.proofs.Scattering.{none-scattered}
use Rattle.run_events.proofs.storage_laws.no_scattered_lease_is_out.Goals as goal

pub returns : goal.returns
returns c = none-scattered
