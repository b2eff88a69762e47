use Rattle.unit_laws.proofs.TypedEntered.{entered-typed}
use Rattle.unit_laws.proofs.laws.graphs_are_entered_on_inputs_of_their_types.Goals as goal

pub returns : goal.returns
returns c = entered-typed
