use Rattle.unit_plan.proofs.Weights.{writes-recorded}
use Rattle.unit_plan.proofs.laws.writes_of_plans_of_units_are_of_record.Goals as goal

pub returns : goal.returns
returns c = writes-recorded
