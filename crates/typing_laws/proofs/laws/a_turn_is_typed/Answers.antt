use Rattle.typing_laws.proofs.Turning.{renewed_typed}
use Rattle.typing_laws.proofs.laws.a_turn_is_typed.Goals as goal

pub returns : goal.returns
returns c = renewed_typed
