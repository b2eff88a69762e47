use Rattle.run_store.proofs.Sums.{sums-recorded}
use Rattle.run_store.proofs.laws.sums_that_own_are_of_record.Goals as goal

pub returns : goal.returns
returns c = sums-recorded
