use Rattle.run_states.proofs.Stated.{slices-costed}
use Rattle.run_states.proofs.laws.slices_cost_their_iterations.Goals as goal

pub returns : goal.returns
returns c = slices-costed
