use Rattle.code_weights.proofs.Adding.{writes-of-plans}
use Rattle.code_weights.proofs.laws.writes_of_code_are_of_plans.Goals as goal

pub returns : goal.returns
returns c = writes-of-plans
