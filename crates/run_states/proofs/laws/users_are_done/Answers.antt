use Rattle.run_states.proofs.Users.{users-done}
use Rattle.run_states.proofs.laws.users_are_done.Goals as goal

pub returns : goal.returns
returns c = users-done
