use Rattle.graph_meaning.proofs.SumsOnce.{sum-one}
use Rattle.graph_meaning.proofs.laws.the_sum_is_one.Goals as goal

pub returns : goal.returns
returns c = sum-one
