use Rattle.run_ranges.proofs.Joining.{collections-join}
use Rattle.run_ranges.proofs.laws.collections_join.Goals as goal

pub returns : goal.returns
returns c = collections-join
