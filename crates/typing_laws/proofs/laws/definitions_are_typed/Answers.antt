use Rattle.typing_laws.proofs.Entering.{one_more_defined}
use Rattle.typing_laws.proofs.laws.definitions_are_typed.Goals as goal

pub returns : goal.returns
returns c = one_more_defined
