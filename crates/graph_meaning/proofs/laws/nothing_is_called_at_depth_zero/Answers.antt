use Rattle.graph_meaning.proofs.PlainDepths.{nothing-at-zero}
use Rattle.graph_meaning.proofs.laws.nothing_is_called_at_depth_zero.Goals as goal

pub returns : goal.returns
returns c = nothing-at-zero
