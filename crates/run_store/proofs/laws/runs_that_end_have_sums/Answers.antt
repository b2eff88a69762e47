use Rattle.run_store.proofs.Sums.{have-sums}
use Rattle.run_store.proofs.laws.runs_that_end_have_sums.Goals as goal

pub returns : goal.returns
returns c = have-sums
