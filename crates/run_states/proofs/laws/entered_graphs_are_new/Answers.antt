use Rattle.run_states.proofs.Graphs.{entered-new}
use Rattle.run_states.proofs.laws.entered_graphs_are_new.Goals as goal

pub returns : goal.returns
returns c = entered-new
