use Rattle.run_states.proofs.Sliced.{slices-cut}
use Rattle.run_states.proofs.laws.slices_are_cuts.Goals as goal

pub returns : goal.returns
returns c = slices-cut
