use Rattle.code_weights.proofs.Adding.{copies-of-plans}
use Rattle.code_weights.proofs.laws.copies_of_code_are_of_plans.Goals as goal

pub returns : goal.returns
returns c = copies-of-plans
