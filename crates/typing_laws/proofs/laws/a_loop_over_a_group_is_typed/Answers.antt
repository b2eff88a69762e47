use Rattle.typing_laws.proofs.Crossed.{over_typed}
use Rattle.typing_laws.proofs.laws.a_loop_over_a_group_is_typed.Goals as goal

pub returns : goal.returns
returns c = over_typed
