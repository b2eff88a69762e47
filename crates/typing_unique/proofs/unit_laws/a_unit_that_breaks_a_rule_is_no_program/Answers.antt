use Rattle.typing_unique.proofs.ELaws.{none_in}
use Rattle.typing_unique.proofs.UBodies.{no_program_if}
use Rattle.typing_unique.proofs.unit_laws.a_unit_that_breaks_a_rule_is_no_program.Goals as goal

pub returns : goal.returns
returns c = no_program_if none_in
