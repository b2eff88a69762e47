use Rattle.run_states.proofs.Graphs.{graphs-kept}
use Rattle.run_states.proofs.laws.live_graphs_are_of_their_paths.Goals as goal

pub returns : goal.returns
returns c = graphs-kept
