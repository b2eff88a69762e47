use Rattle.breaking_laws.proofs.FParts.{written_misnamed}
use Rattle.breaking_laws.proofs.form_laws.a_written_type_breaks.Goals as goal

pub returns : goal.returns
returns c = written_misnamed
