use Rattle.run_states.proofs.Stated.{steps-of-runs}
use Rattle.run_states.proofs.laws.steps_are_of_the_run.Goals as goal

pub returns : goal.returns
returns c = steps-of-runs
