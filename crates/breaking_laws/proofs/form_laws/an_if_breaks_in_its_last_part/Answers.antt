use Rattle.breaking_laws.proofs.FParts.{else_breaks}
use Rattle.breaking_laws.proofs.form_laws.an_if_breaks_in_its_last_part.Goals as goal

pub returns : goal.returns
returns c = else_breaks
