use Rattle.typing_unique.proofs.UPrograms.{same_program}
use Rattle.typing_unique.proofs.unit_laws.a_unit_is_one_program.Goals as goal

pub returns : goal.returns
returns c = same_program
