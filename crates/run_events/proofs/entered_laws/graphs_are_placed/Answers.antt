use Rattle.run_events.proofs.Placed.{graphs-placed}
use Rattle.run_events.proofs.entered_laws.graphs_are_placed.Goals as goal

pub returns : goal.returns
returns c = graphs-placed
