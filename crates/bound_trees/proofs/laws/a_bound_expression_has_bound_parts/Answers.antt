use Rattle.bound_trees.proofs.Parts.{bound_parts}
use Rattle.bound_trees.proofs.laws.a_bound_expression_has_bound_parts.Goals as goal

pub returns : goal.returns
returns c = bound_parts
