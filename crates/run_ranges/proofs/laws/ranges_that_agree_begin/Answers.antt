use Rattle.run_ranges.proofs.Running.{ranges-that-agree-begin}
use Rattle.run_ranges.proofs.laws.ranges_that_agree_begin.Goals as goal

pub returns : goal.returns
returns c = ranges-that-agree-begin
