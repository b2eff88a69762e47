use Rattle.text_trees.proofs.Spelled.{items_spelled}
use Rattle.text_trees.proofs.laws.what_tokens_spell_is_spelled.Goals as goal

pub returns : goal.returns
returns c = items_spelled
