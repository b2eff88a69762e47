use Rattle.run_ranges.proofs.Running.{ranges-that-agree-of-record}
use Rattle.run_ranges.proofs.laws.ranges_that_agree_are_of_record.Goals as goal

pub returns : goal.returns
returns c = ranges-that-agree-of-record
