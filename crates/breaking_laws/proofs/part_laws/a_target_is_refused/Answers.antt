use Rattle.breaking_laws.proofs.PDefs.{one_target_refused}
use Rattle.breaking_laws.proofs.part_laws.a_target_is_refused.Goals as goal

pub returns : goal.returns
returns c = one_target_refused
