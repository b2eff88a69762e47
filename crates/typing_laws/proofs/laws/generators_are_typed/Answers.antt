use Rattle.typing_laws.proofs.Generated.{one_more_generated}
use Rattle.typing_laws.proofs.laws.generators_are_typed.Goals as goal

pub returns : goal.returns
returns c = one_more_generated
