use Rattle.typing_unique.proofs.UPrograms.{one_declared}
use Rattle.typing_unique.proofs.unit_laws.a_unit_has_one_list_of_functions.Goals as goal

pub returns : goal.returns
returns c = one_declared
