use Rattle.run_ranges.proofs.Taking.{eaches-take-above}
use Rattle.run_ranges.proofs.laws.eaches_take_above.Goals as goal

pub returns : goal.returns
returns c = eaches-take-above
