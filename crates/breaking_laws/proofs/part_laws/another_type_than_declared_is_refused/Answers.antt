use Rattle.breaking_laws.proofs.PDefs.{declared_refused}
use Rattle.breaking_laws.proofs.part_laws.another_type_than_declared_is_refused.Goals as goal

pub returns : goal.returns
returns c = declared_refused
