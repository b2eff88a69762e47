use Rattle.breaking_laws.proofs.FParts.{unknown_breaks}
use Rattle.breaking_laws.proofs.form_laws.an_unknown_name_is_refused.Goals as goal

pub returns : goal.returns
returns c = unknown_breaks
