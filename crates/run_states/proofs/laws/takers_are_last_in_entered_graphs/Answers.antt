use Rattle.run_states.proofs.Takers.{takers-inside}
use Rattle.run_states.proofs.laws.takers_are_last_in_entered_graphs.Goals as goal

pub returns : goal.returns
returns c = takers-inside
