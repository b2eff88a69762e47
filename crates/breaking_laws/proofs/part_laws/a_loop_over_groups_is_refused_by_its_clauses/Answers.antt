use Rattle.breaking_laws.proofs.PGenerators.{product_clauses_refused}
use Rattle.breaking_laws.proofs.part_laws.a_loop_over_groups_is_refused_by_its_clauses.Goals as goal

pub returns : goal.returns
returns c = product_clauses_refused
