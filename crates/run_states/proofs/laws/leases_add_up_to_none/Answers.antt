use Rattle.run_states.proofs.Leasing.{none-leased}
use Rattle.run_states.proofs.laws.leases_add_up_to_none.Goals as goal

pub returns : goal.returns
returns c = none-leased
