use Rattle.breaking_laws.proofs.PDefs.{misnamed_target}
use Rattle.breaking_laws.proofs.part_laws.a_declared_type_is_refused.Goals as goal

pub returns : goal.returns
returns c = misnamed_target
