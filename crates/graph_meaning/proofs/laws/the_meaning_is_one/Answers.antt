use Rattle.graph_meaning.proofs.PlainValues.{one-meaning}
use Rattle.graph_meaning.proofs.laws.the_meaning_is_one.Goals as goal

pub returns : goal.returns
returns c = one-meaning
