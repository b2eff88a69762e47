use Rattle.run_made.proofs.Inside.{inside}
use Rattle.run_made.proofs.laws.code_that_is_made_stays_inside.Goals as goal

pub returns : goal.returns
returns c = inside
