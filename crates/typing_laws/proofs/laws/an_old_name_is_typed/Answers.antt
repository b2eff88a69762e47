use Rattle.typing_laws.proofs.Leaf.{old_typed}
use Rattle.typing_laws.proofs.laws.an_old_name_is_typed.Goals as goal

pub returns : goal.returns
returns c = old_typed
