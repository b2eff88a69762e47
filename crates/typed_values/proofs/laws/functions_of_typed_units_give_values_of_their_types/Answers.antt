use Rattle.typed_values.proofs.Units.{units_typed}
use Rattle.typed_values.proofs.laws.functions_of_typed_units_give_values_of_their_types.Goals as goal

pub returns : goal.returns
returns c = units_typed
