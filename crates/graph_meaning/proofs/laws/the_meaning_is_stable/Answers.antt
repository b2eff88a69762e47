use Rattle.graph_meaning.proofs.PlainDepths.{plain-stable}
use Rattle.graph_meaning.proofs.laws.the_meaning_is_stable.Goals as goal

pub returns : goal.returns
returns c = plain-stable
