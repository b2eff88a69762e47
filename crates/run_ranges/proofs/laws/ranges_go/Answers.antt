use Rattle.run_ranges.proofs.Going.{ranges-go}
use Rattle.run_ranges.proofs.laws.ranges_go.Goals as goal

pub returns : goal.returns
returns c = ranges-go
