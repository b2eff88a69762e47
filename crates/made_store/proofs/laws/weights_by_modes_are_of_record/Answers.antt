use Rattle.made_store.proofs.Weights.{modes-weights}
use Rattle.made_store.proofs.laws.weights_by_modes_are_of_record.Goals as goal

pub returns : goal.returns
returns c = modes-weights
