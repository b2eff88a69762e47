use Rattle.breaking_laws.proofs.FParts.{list_breaks}
use Rattle.breaking_laws.proofs.form_laws.a_list_breaks_in_a_part.Goals as goal

pub returns : goal.returns
returns c = list_breaks
