use Rattle.run_states.proofs.Takers.{users-inside}
use Rattle.run_states.proofs.laws.users_are_finished_in_entered_graphs.Goals as goal

pub returns : goal.returns
returns c = users-inside
