use Rattle.run_ranges.proofs.Running.{ranges-of-runs-begin}
use Rattle.run_ranges.proofs.laws.ranges_of_runs_begin.Goals as goal

pub returns : goal.returns
returns c = ranges-of-runs-begin
