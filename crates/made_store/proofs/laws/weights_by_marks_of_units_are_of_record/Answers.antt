use Rattle.made_store.proofs.UnitWeights.{unit-weights}
use Rattle.made_store.proofs.laws.weights_by_marks_of_units_are_of_record.Goals as goal

pub returns : goal.returns
returns c = unit-weights
