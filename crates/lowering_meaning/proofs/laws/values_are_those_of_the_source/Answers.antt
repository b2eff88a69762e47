use Rattle.lowering_meaning.proofs.Theorem.{values-kept}
use Rattle.lowering_meaning.proofs.laws.values_are_those_of_the_source.Goals as goal

pub returns : goal.returns
returns c = values-kept
