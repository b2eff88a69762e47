use Rattle.run_laws.proofs.Forward.{all-done}
use Rattle.run_laws.proofs.laws.the_machine_does_it_all.Goals as goal

pub returns : goal.returns
returns c = all-done
