use Rattle.breaking_laws.proofs.FParts.{not_one_breaks}
use Rattle.breaking_laws.proofs.form_laws.several_values_are_refused.Goals as goal

pub returns : goal.returns
returns c = not_one_breaks
