use Rattle.bound_trees.proofs.Nested.{unit_within}
use Rattle.bound_trees.proofs.laws.typed_units_nest_as_deep_as_their_text.Goals as goal

pub returns : goal.returns
returns c = unit_within
