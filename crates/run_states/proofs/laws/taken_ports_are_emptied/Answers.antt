use Rattle.run_states.proofs.Moving.{taking-kept}
use Rattle.run_states.proofs.laws.taken_ports_are_emptied.Goals as goal

pub returns : goal.returns
returns c = taking-kept
