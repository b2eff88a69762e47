use Rattle.run_states.proofs.Moving.{entering-kept}
use Rattle.run_states.proofs.laws.entered_stores_are_kept.Goals as goal

pub returns : goal.returns
returns c = entering-kept
