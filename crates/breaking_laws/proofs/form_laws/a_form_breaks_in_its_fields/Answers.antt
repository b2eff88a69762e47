use Rattle.breaking_laws.proofs.FParts.{fields_break}
use Rattle.breaking_laws.proofs.form_laws.a_form_breaks_in_its_fields.Goals as goal

pub returns : goal.returns
returns c = fields_break
