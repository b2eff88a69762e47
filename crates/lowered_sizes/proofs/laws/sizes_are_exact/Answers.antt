use Rattle.lowered_sizes.proofs.SizedTrees.{program-sizes}
use Rattle.lowered_sizes.proofs.laws.sizes_are_exact.Goals as goal

pub returns : goal.returns
returns c = λ p fit. program-sizes p fit
