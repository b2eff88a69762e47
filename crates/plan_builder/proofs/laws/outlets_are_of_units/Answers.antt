use Rattle.plan_builder.proofs.Units.{outlets-laid}
use Rattle.plan_builder.proofs.laws.outlets_are_of_units.Goals as goal

pub returns : goal.returns
returns c = outlets-laid
