use Rattle.breaking_laws.proofs.FParts.{error_of_breaks}
use Rattle.breaking_laws.proofs.form_laws.an_error_breaks_in_its_type.Goals as goal

pub returns : goal.returns
returns c = error_of_breaks
