use Rattle.run_ranges.proofs.Recorded.{ranges-of-record-go}
use Rattle.run_ranges.proofs.laws.ranges_of_record_go.Goals as goal

pub returns : goal.returns
returns c = ranges-of-record-go
