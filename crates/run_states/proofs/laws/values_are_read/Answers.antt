use Rattle.run_states.proofs.Stated.{values-read}
use Rattle.run_states.proofs.laws.values_are_read.Goals as goal

pub returns : goal.returns
returns c = values-read
