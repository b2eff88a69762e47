use Rattle.run_ranges.proofs.Units.{unit-ranges-of-record}
use Rattle.run_ranges.proofs.laws.unit_ranges_are_of_record.Goals as goal

pub returns : goal.returns
returns c = unit-ranges-of-record
