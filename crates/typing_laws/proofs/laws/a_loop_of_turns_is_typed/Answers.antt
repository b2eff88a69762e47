use Rattle.typing_laws.proofs.Turning.{initial_typed}
use Rattle.typing_laws.proofs.laws.a_loop_of_turns_is_typed.Goals as goal

pub returns : goal.returns
returns c = initial_typed
