use Rattle.unit_plan.proofs.Right.{plans-right}
use Rattle.unit_plan.proofs.laws.plans_of_units_are_right.Goals as goal

pub returns : goal.returns
returns c = plans-right
