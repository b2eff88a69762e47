use Rattle.run_store.proofs.Whole.{unit-decided}
use Rattle.run_store.proofs.laws.runs_of_units_are_decided.Goals as goal

pub returns : goal.returns
returns c = unit-decided
