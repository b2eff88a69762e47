use Rattle.breaking_laws.proofs.FParts.{no_type_breaks}
use Rattle.breaking_laws.proofs.form_laws.an_unknown_type_is_refused.Goals as goal

pub returns : goal.returns
returns c = no_type_breaks
