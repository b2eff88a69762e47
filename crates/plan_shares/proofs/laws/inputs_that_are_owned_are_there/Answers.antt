use Rattle.plan_shares.proofs.Owning.{owned-there}
use Rattle.plan_shares.proofs.laws.inputs_that_are_owned_are_there.Goals as goal

pub returns : goal.returns
returns c = owned-there
