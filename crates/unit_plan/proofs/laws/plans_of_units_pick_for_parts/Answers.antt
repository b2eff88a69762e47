use Rattle.unit_plan.proofs.Weights.{plans-unpicked}
use Rattle.unit_plan.proofs.laws.plans_of_units_pick_for_parts.Goals as goal

pub returns : goal.returns
returns c = plans-unpicked
