use Rattle.run_states.proofs.Kept.{busy-kept}
use Rattle.run_states.proofs.laws.busy_graphs_stay_busy.Goals as goal

pub returns : goal.returns
returns c = busy-kept
