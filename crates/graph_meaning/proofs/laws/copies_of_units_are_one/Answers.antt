use Rattle.graph_meaning.proofs.StorageUnits.{unit-copies-one}
use Rattle.graph_meaning.proofs.laws.copies_of_units_are_one.Goals as goal

pub returns : goal.returns
returns c = unit-copies-one
