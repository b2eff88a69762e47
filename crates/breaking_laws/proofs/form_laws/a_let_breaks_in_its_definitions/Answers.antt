use Rattle.breaking_laws.proofs.FParts.{definitions_break}
use Rattle.breaking_laws.proofs.form_laws.a_let_breaks_in_its_definitions.Goals as goal

pub returns : goal.returns
returns c = definitions_break
