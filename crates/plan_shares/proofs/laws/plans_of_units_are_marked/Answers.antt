use Rattle.plan_shares.proofs.Runs.{plans-marked}
use Rattle.plan_shares.proofs.laws.plans_of_units_are_marked.Goals as goal

pub returns : goal.returns
returns c = plans-marked
