use Rattle.breaking_laws.proofs.FParts.{field_breaks}
use Rattle.breaking_laws.proofs.form_laws.fields_break_in_a_value.Goals as goal

pub returns : goal.returns
returns c = field_breaks
