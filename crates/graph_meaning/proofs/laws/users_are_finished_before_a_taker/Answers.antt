use Rattle.graph_meaning.proofs.Takers.{users-finished}
use Rattle.graph_meaning.proofs.laws.users_are_finished_before_a_taker.Goals as goal

pub returns : goal.returns
returns c = users-finished
