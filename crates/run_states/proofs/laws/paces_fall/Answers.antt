use Rattle.run_states.proofs.Stated.{paces-fall}
use Rattle.run_states.proofs.laws.paces_fall.Goals as goal

pub returns : goal.returns
returns c = paces-fall
