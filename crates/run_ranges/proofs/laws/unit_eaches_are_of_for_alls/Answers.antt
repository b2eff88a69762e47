use Rattle.run_ranges.proofs.Units.{unit-eaches}
use Rattle.run_ranges.proofs.laws.unit_eaches_are_of_for_alls.Goals as goal

pub returns : goal.returns
returns c = unit-eaches
