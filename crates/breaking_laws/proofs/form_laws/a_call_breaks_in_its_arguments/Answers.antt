use Rattle.breaking_laws.proofs.FParts.{arguments_break}
use Rattle.breaking_laws.proofs.form_laws.a_call_breaks_in_its_arguments.Goals as goal

pub returns : goal.returns
returns c = arguments_break
