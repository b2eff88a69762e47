use Rattle.run_ranges.proofs.Running.{ranges-of-code}
use Rattle.run_ranges.proofs.laws.ranges_of_code_are_of_record.Goals as goal

pub returns : goal.returns
returns c = ranges-of-code
