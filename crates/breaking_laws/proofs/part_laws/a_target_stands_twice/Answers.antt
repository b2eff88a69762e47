use Rattle.breaking_laws.proofs.PDefs.{targets_twice}
use Rattle.breaking_laws.proofs.part_laws.a_target_stands_twice.Goals as goal

pub returns : goal.returns
returns c = targets_twice
