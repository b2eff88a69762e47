use Rattle.run_events.proofs.Leases.{nothing-out}
use Rattle.run_events.proofs.leases_laws.no_lease_is_out_of_what_is_taken.Goals as goal

pub returns : goal.returns
returns c = nothing-out
