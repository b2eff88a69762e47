use Rattle.run_ranges.proofs.Quick.{quick-ranges-begin}
use Rattle.run_ranges.proofs.laws.quick_ranges_begin.Goals as goal

pub returns : goal.returns
returns c = quick-ranges-begin
