use Rattle.graph_meaning.proofs.PlainCosts.{plain-costs}
use Rattle.graph_meaning.proofs.laws.depths_have_one_cost.Goals as goal

pub returns : goal.returns
returns c = plain-costs
