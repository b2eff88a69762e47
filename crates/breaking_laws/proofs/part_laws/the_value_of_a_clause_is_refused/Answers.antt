use Rattle.breaking_laws.proofs.PClauses.{clause_value_refused}
use Rattle.breaking_laws.proofs.part_laws.the_value_of_a_clause_is_refused.Goals as goal

pub returns : goal.returns
returns c = clause_value_refused
