use Rattle.run_made.proofs.Decided.{made-decided}
use Rattle.run_made.proofs.laws.runs_of_what_is_made_are_decided.Goals as goal

pub returns : goal.returns
returns c = made-decided
