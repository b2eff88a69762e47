use Rattle.run_store.proofs.Whole.{store-decided}
use Rattle.run_store.proofs.laws.runs_that_own_are_decided.Goals as goal

pub returns : goal.returns
returns c = store-decided
