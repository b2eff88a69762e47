use Rattle.run_laws.proofs.Backward.{exact}
use Rattle.run_laws.proofs.laws.the_machine_is_exact.Goals as goal

pub returns : goal.returns
returns c = exact
