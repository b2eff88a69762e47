use Rattle.run_ranges.proofs.Units.{unit-ranges-begin}
use Rattle.run_ranges.proofs.laws.unit_ranges_begin.Goals as goal

pub returns : goal.returns
returns c = unit-ranges-begin
