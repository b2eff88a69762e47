use Rattle.run_ranges.proofs.Meeting.{ranges-of-record}
use Rattle.run_ranges.proofs.laws.ranges_are_of_record.Goals as goal

pub returns : goal.returns
returns c = ranges-of-record
