use Rattle.bound_trees.proofs.Parts.{each_bound}
use Rattle.bound_trees.proofs.laws.bound_expressions_are_bound.Goals as goal

pub returns : goal.returns
returns c = each_bound
