use Rattle.plan_shares.proofs.Clauses.{kinds-shared}
use Rattle.plan_shares.proofs.laws.parts_of_plans_own_what_is_given.Goals as goal

pub returns : goal.returns
returns c = kinds-shared
