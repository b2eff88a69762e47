use Rattle.run_store.proofs.Whole.{runs-begin}
use Rattle.run_store.proofs.laws.runs_that_own_begin.Goals as goal

pub returns : goal.returns
returns c = runs-begin
