use Rattle.run_ranges.proofs.Finding.{eaches}
use Rattle.run_ranges.proofs.laws.eaches_are_of_for_alls.Goals as goal

pub returns : goal.returns
returns c = eaches
