use Rattle.plan_shares.proofs.Clauses.{shares-owned}
use Rattle.plan_shares.proofs.laws.takers_of_plans_are_owned.Goals as goal

pub returns : goal.returns
returns c = shares-owned
