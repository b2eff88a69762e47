use Rattle.typing_laws.proofs.Leaving.{let_typed}
use Rattle.typing_laws.proofs.laws.a_let_is_typed.Goals as goal

pub returns : goal.returns
returns c = let_typed
