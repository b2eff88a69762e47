use Rattle.run_states.proofs.Kept.{finishes-kept}
use Rattle.run_states.proofs.laws.finishes_are_kept.Goals as goal

pub returns : goal.returns
returns c = finishes-kept
