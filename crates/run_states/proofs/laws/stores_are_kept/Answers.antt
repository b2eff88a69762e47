use Rattle.run_states.proofs.Moving.{stores-kept}
use Rattle.run_states.proofs.laws.stores_are_kept.Goals as goal

pub returns : goal.returns
returns c = stores-kept
