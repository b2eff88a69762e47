use Rattle.made_store.proofs.Units.{made-unit-decided}
use Rattle.made_store.proofs.laws.runs_of_units_that_are_made_are_decided.Goals as goal

pub returns : goal.returns
returns c = made-unit-decided
