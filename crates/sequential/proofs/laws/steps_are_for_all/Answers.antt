use Rattle.sequential.proofs.Same.{are-for-all}
use Rattle.sequential.proofs.laws.steps_are_for_all.Goals as goal

pub returns : goal.returns
returns c = are-for-all
