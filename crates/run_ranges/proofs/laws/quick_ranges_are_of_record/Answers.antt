use Rattle.run_ranges.proofs.Quick.{quick-ranges-of-record}
use Rattle.run_ranges.proofs.laws.quick_ranges_are_of_record.Goals as goal

pub returns : goal.returns
returns c = quick-ranges-of-record
