use Rattle.unit_plan.proofs.Right.{writes-right}
use Rattle.unit_plan.proofs.laws.writes_of_plans_are_right.Goals as goal

pub returns : goal.returns
returns c = writes-right
