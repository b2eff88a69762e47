use Rattle.typing_laws.proofs.Headed.{once_distinct}
use Rattle.typing_laws.proofs.laws.names_are_distinct.Goals as goal

pub returns : goal.returns
returns c = once_distinct
