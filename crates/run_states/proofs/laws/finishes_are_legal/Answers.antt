use Rattle.run_states.proofs.Stated.{finishes-legal}
use Rattle.run_states.proofs.laws.finishes_are_legal.Goals as goal

pub returns : goal.returns
returns c = finishes-legal
