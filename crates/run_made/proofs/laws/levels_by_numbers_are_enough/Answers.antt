use Rattle.run_made.proofs.Tables.{levels-enough}
use Rattle.run_made.proofs.laws.levels_by_numbers_are_enough.Goals as goal

pub returns : goal.returns
returns c = levels-enough
