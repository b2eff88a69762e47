use Rattle.run_states.proofs.Stated.{claims-legal}
use Rattle.run_states.proofs.laws.claims_are_legal.Goals as goal

pub returns : goal.returns
returns c = claims-legal
