use Rattle.run_states.proofs.Stated.{ready-exact}
use Rattle.run_states.proofs.laws.ready_items_are_claimable.Goals as goal

pub returns : goal.returns
returns c = ready-exact
