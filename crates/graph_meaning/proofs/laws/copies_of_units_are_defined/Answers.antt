use Rattle.graph_meaning.proofs.StorageUnits.{unit-copies-defined}
use Rattle.graph_meaning.proofs.laws.copies_of_units_are_defined.Goals as goal

pub returns : goal.returns
returns c = unit-copies-defined
