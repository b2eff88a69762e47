use Rattle.breaking_laws.proofs.FParts.{then_breaks}
use Rattle.breaking_laws.proofs.form_laws.an_if_breaks_in_its_first_part.Goals as goal

pub returns : goal.returns
returns c = then_breaks
