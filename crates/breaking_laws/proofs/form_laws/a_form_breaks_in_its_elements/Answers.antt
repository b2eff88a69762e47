use Rattle.breaking_laws.proofs.FParts.{elements_break}
use Rattle.breaking_laws.proofs.form_laws.a_form_breaks_in_its_elements.Goals as goal

pub returns : goal.returns
returns c = elements_break
