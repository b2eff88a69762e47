use Rattle.typing_laws.proofs.Leaf.{constant_typed}
use Rattle.typing_laws.proofs.laws.a_constant_is_typed.Goals as goal

pub returns : goal.returns
returns c = constant_typed
