use Rattle.run_ranges.proofs.Stopping.{ranges-that-stop-begin}
use Rattle.run_ranges.proofs.laws.ranges_that_stop_begin.Goals as goal

pub returns : goal.returns
returns c = ranges-that-stop-begin
