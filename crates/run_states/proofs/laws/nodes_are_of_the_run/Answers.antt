use Rattle.run_states.proofs.Stated.{nodes-of-runs}
use Rattle.run_states.proofs.laws.nodes_are_of_the_run.Goals as goal

pub returns : goal.returns
returns c = nodes-of-runs
