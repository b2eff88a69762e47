use Rattle.run_ranges.proofs.Running.{ranges-alone-begin}
use Rattle.run_ranges.proofs.laws.ranges_alone_begin.Goals as goal

pub returns : goal.returns
returns c = ranges-alone-begin
