use Rattle.breaking_laws.proofs.PTwice.{stands_twice}
use Rattle.breaking_laws.proofs.part_laws.a_name_stands_twice.Goals as goal

pub returns : goal.returns
returns c = stands_twice
