use Rattle.typed_values.proofs.Values.{expressions_typed}
use Rattle.typed_values.proofs.laws.expressions_give_values_of_their_types.Goals as goal

pub returns : goal.returns
returns c = expressions_typed
