use Rattle.breaking_laws.proofs.PMade.{deep_refused}
use Rattle.breaking_laws.proofs.part_laws.a_clause_that_makes_too_deep_a_type_is_refused.Goals as goal

pub returns : goal.returns
returns c = deep_refused
