use Rattle.typing_laws.proofs.Leaf.{name_typed}
use Rattle.typing_laws.proofs.laws.a_name_is_typed.Goals as goal

pub returns : goal.returns
returns c = name_typed
