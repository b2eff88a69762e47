use Rattle.run_states.proofs.Stated.{no-lease}
use Rattle.run_states.proofs.laws.no_lease_is_out.Goals as goal

pub returns : goal.returns
returns c = no-lease
