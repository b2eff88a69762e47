use Rattle.typing_laws.proofs.Crossed.{around_typed}
use Rattle.typing_laws.proofs.laws.a_loop_around_another_is_typed.Goals as goal

pub returns : goal.returns
returns c = around_typed
