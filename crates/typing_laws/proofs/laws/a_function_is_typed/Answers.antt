use Rattle.typing_laws.proofs.Bodied.{body_typed}
use Rattle.typing_laws.proofs.laws.a_function_is_typed.Goals as goal

pub returns : goal.returns
returns c = body_typed
