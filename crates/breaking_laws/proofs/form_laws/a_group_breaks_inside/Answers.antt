use Rattle.breaking_laws.proofs.FParts.{group_breaks}
use Rattle.breaking_laws.proofs.form_laws.a_group_breaks_inside.Goals as goal

pub returns : goal.returns
returns c = group_breaks
