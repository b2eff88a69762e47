use Rattle.text_trees.proofs.Parts.{spelled_parts}
use Rattle.text_trees.proofs.laws.parts_of_the_spelled_are_spelled.Goals as goal

pub returns : goal.returns
returns c = spelled_parts
