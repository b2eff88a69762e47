use Rattle.plan_shares.proofs.Right.{shares-right}
use Rattle.plan_shares.proofs.laws.shares_of_units_are_right.Goals as goal

pub returns : goal.returns
returns c = shares-right
