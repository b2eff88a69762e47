use Rattle.typing_laws.proofs.Called.{call_typed}
use Rattle.typing_laws.proofs.laws.a_call_is_typed.Goals as goal

pub returns : goal.returns
returns c = call_typed
