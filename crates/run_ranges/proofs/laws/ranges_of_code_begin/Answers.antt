use Rattle.run_ranges.proofs.Running.{ranges-of-code-begin}
use Rattle.run_ranges.proofs.laws.ranges_of_code_begin.Goals as goal

pub returns : goal.returns
returns c = ranges-of-code-begin
