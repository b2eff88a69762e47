use Rattle.plan_shares.proofs.Clauses.{read-there}
use Rattle.plan_shares.proofs.laws.inputs_that_are_read_are_there.Goals as goal

pub returns : goal.returns
returns c = read-there
