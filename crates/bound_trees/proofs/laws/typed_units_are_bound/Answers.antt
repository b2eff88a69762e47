use Rattle.bound_trees.proofs.Units.{unit_bound}
use Rattle.bound_trees.proofs.laws.typed_units_are_bound.Goals as goal

pub returns : goal.returns
returns c = unit_bound
