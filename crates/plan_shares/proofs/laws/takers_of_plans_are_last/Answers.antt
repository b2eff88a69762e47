use Rattle.plan_shares.proofs.Clauses.{shares-last}
use Rattle.plan_shares.proofs.laws.takers_of_plans_are_last.Goals as goal

pub returns : goal.returns
returns c = shares-last
