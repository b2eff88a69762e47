use Rattle.run_store.proofs.Sums.{unit-writes}
use Rattle.run_store.proofs.laws.writes_of_units_are_of_record.Goals as goal

pub returns : goal.returns
returns c = unit-writes
