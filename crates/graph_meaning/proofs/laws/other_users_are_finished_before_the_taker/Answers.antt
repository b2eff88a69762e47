use Rattle.graph_meaning.proofs.UnitTakers.{takers-last}
use Rattle.graph_meaning.proofs.laws.other_users_are_finished_before_the_taker.Goals as goal

pub returns : goal.returns
returns c = takers-last
