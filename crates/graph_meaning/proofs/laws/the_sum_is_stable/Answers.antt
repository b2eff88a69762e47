use Rattle.graph_meaning.proofs.PlainAdds.{sum-stable}
use Rattle.graph_meaning.proofs.laws.the_sum_is_stable.Goals as goal

pub returns : goal.returns
returns c = sum-stable
