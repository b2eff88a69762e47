use Rattle.run_ranges.proofs.Joining.{ranges-cut}
use Rattle.run_ranges.proofs.laws.ranges_are_cut.Goals as goal

pub returns : goal.returns
returns c = ranges-cut
