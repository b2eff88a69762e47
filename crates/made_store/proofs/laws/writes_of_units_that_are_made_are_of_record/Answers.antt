use Rattle.made_store.proofs.Units.{made-writes}
use Rattle.made_store.proofs.laws.writes_of_units_that_are_made_are_of_record.Goals as goal

pub returns : goal.returns
returns c = made-writes
