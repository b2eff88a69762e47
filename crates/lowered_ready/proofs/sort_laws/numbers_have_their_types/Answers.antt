use Rattle.lowered_ready.proofs.Bare.{number-told}
use Rattle.lowered_ready.proofs.sort_laws.numbers_have_their_types.Goals as goal

pub returns : goal.returns
returns c = λ p n t fit k. number-told p fit.types n t k
