use Rattle.run_states.proofs.Moving.{filling-kept}
use Rattle.run_states.proofs.laws.filled_ports_are_kept.Goals as goal

pub returns : goal.returns
returns c = filling-kept
