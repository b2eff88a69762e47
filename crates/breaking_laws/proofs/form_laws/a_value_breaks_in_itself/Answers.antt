use Rattle.breaking_laws.proofs.FParts.{one_breaks}
use Rattle.breaking_laws.proofs.form_laws.a_value_breaks_in_itself.Goals as goal

pub returns : goal.returns
returns c = one_breaks
