use Rattle.typing_laws.proofs.Crossed.{product_typed}
use Rattle.typing_laws.proofs.laws.a_loop_over_groups_is_typed.Goals as goal

pub returns : goal.returns
returns c = product_typed
