use Rattle.run_states.proofs.Paths.{paths-exact}
use Rattle.run_states.proofs.laws.paths_are_exact.Goals as goal

pub returns : goal.returns
returns c = paths-exact
