use Rattle.typed_values.proofs.Values.{calls_typed}
use Rattle.typed_values.proofs.laws.calls_give_values_of_their_types.Goals as goal

pub returns : goal.returns
returns c = calls_typed
