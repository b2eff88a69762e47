use Rattle.plan_builder.proofs.Extents.{outputs-inside}
use Rattle.plan_builder.proofs.laws.outputs_are_in_extents.Goals as goal

pub returns : goal.returns
returns c = outputs-inside
