use Rattle.breaking_laws.proofs.FParts.{old_breaks}
use Rattle.breaking_laws.proofs.form_laws.a_name_of_no_loop_is_refused.Goals as goal

pub returns : goal.returns
returns c = old_breaks
