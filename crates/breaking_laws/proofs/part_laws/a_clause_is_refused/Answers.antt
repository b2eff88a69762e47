use Rattle.breaking_laws.proofs.PClauses.{one_clause_refused}
use Rattle.breaking_laws.proofs.part_laws.a_clause_is_refused.Goals as goal

pub returns : goal.returns
returns c = one_clause_refused
