use Rattle.typing_unique.proofs.ELaws.{proper_law}
use Rattle.typing_unique.proofs.expr_laws.types_are_proper.Goals as goal

pub returns : goal.returns
returns c = proper_law
