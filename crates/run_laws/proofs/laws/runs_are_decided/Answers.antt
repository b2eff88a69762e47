use Rattle.run_laws.proofs.Stopping.{decided}
use Rattle.run_laws.proofs.laws.runs_are_decided.Goals as goal

pub returns : goal.returns
returns c = decided
