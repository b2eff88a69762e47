use Rattle.typing_laws.proofs.Called.{group_typed}
use Rattle.typing_laws.proofs.laws.a_group_is_typed.Goals as goal

pub returns : goal.returns
returns c = group_typed
