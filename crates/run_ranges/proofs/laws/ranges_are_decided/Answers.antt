use Rattle.run_ranges.proofs.Meeting.{ranges-decided}
use Rattle.run_ranges.proofs.laws.ranges_are_decided.Goals as goal

pub returns : goal.returns
returns c = ranges-decided
