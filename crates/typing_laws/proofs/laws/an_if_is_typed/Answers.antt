use Rattle.typing_laws.proofs.Called.{if_typed}
use Rattle.typing_laws.proofs.laws.an_if_is_typed.Goals as goal

pub returns : goal.returns
returns c = if_typed
