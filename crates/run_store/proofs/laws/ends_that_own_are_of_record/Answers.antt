use Rattle.run_store.proofs.Whole.{store-ends-recorded}
use Rattle.run_store.proofs.laws.ends_that_own_are_of_record.Goals as goal

pub returns : goal.returns
returns c = store-ends-recorded
