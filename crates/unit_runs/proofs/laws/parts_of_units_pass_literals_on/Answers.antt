use Rattle.unit_runs.proofs.Passing.{parts-passed}
use Rattle.unit_runs.proofs.laws.parts_of_units_pass_literals_on.Goals as goal

pub returns : goal.returns
returns c = parts-passed
