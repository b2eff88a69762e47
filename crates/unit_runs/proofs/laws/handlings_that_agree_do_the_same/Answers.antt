use Rattle.unit_runs.proofs.Alike.{do-alike}
use Rattle.unit_runs.proofs.laws.handlings_that_agree_do_the_same.Goals as goal

pub returns : goal.returns
returns c = do-alike
