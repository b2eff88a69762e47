use Rattle.run_states.proofs.Stated.{entered-stand}
use Rattle.run_states.proofs.laws.entered_graphs_stand.Goals as goal

pub returns : goal.returns
returns c = entered-stand
