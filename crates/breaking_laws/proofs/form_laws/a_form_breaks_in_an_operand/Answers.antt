use Rattle.breaking_laws.proofs.FParts.{operand_breaks}
use Rattle.breaking_laws.proofs.form_laws.a_form_breaks_in_an_operand.Goals as goal

pub returns : goal.returns
returns c = operand_breaks
