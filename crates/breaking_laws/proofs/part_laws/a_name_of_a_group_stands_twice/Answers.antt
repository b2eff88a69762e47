use Rattle.breaking_laws.proofs.PGenerators.{group_twice}
use Rattle.breaking_laws.proofs.part_laws.a_name_of_a_group_stands_twice.Goals as goal

pub returns : goal.returns
returns c = group_twice
