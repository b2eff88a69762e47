use Rattle.breaking_laws.proofs.PMade.{one_made_refused}
use Rattle.breaking_laws.proofs.part_laws.a_clause_is_refused_over_its_values.Goals as goal

pub returns : goal.returns
returns c = one_made_refused
