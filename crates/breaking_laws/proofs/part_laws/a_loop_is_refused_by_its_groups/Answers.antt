use Rattle.breaking_laws.proofs.PGenerators.{product_groups_refused}
use Rattle.breaking_laws.proofs.part_laws.a_loop_is_refused_by_its_groups.Goals as goal

pub returns : goal.returns
returns c = product_groups_refused
