use Rattle.run_ranges.proofs.Alone.{ranges-alone-decided}
use Rattle.run_ranges.proofs.laws.ranges_alone_are_decided.Goals as goal

pub returns : goal.returns
returns c = ranges-alone-decided
