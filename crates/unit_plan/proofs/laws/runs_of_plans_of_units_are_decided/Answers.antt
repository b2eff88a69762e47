use Rattle.unit_plan.proofs.Weights.{plans-decided}
use Rattle.unit_plan.proofs.laws.runs_of_plans_of_units_are_decided.Goals as goal

pub returns : goal.returns
returns c = plans-decided
