use Rattle.run_ranges.proofs.Stopping.{ranges-alone-stop}
use Rattle.run_ranges.proofs.laws.ranges_alone_stop.Goals as goal

pub returns : goal.returns
returns c = ranges-alone-stop
