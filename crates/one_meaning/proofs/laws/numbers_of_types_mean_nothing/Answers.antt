use Rattle.one_meaning.proofs.Bared.{numbers_nothing}
use Rattle.one_meaning.proofs.laws.numbers_of_types_mean_nothing.Goals as goal

pub returns : goal.returns
returns c = numbers_nothing
