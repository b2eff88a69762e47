use Rattle.run_states.proofs.Leasing.{idle-not-leased}
use Rattle.run_states.proofs.laws.idle_graphs_lease_nothing.Goals as goal

pub returns : goal.returns
returns c = idle-not-leased
