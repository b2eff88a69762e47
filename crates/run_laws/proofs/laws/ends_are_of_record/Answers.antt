use Rattle.run_laws.proofs.Backward.{ends-recorded}
use Rattle.run_laws.proofs.laws.ends_are_of_record.Goals as goal

pub returns : goal.returns
returns c = ends-recorded
