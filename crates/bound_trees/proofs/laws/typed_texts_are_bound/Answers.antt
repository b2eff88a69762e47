use Rattle.bound_trees.proofs.Units.{text_bound}
use Rattle.bound_trees.proofs.laws.typed_texts_are_bound.Goals as goal

pub returns : goal.returns
returns c = text_bound
