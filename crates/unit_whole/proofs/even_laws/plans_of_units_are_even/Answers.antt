use Rattle.unit_whole.proofs.Nodes.{plans-even}
use Rattle.unit_whole.proofs.even_laws.plans_of_units_are_even.Goals as goal

pub returns : goal.returns
returns c = plans-even
