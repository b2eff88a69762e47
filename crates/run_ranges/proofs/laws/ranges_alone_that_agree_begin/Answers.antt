use Rattle.run_ranges.proofs.Running.{ranges-alone-that-agree-begin}
use Rattle.run_ranges.proofs.laws.ranges_alone_that_agree_begin.Goals as goal

pub returns : goal.returns
returns c = ranges-alone-that-agree-begin
