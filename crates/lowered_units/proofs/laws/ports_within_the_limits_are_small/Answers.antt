use Rattle.lowered_units.proofs.KeptTrees.{small-ports}
use Rattle.lowered_units.proofs.laws.ports_within_the_limits_are_small.Goals as goal

pub returns : goal.returns
returns c = λ p fit few. small-ports p fit few
