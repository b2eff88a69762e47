use Rattle.run_states.proofs.Leasing.{leases-kept}
use Rattle.run_states.proofs.laws.other_ports_lease_the_same.Goals as goal

pub returns : goal.returns
returns c = leases-kept
