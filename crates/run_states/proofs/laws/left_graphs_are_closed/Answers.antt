use Rattle.run_states.proofs.Kept.{closing-kept}
use Rattle.run_states.proofs.laws.left_graphs_are_closed.Goals as goal

pub returns : goal.returns
returns c = closing-kept
