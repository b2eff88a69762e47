use Rattle.breaking_laws.proofs.PMade.{unmade_refused}
use Rattle.breaking_laws.proofs.part_laws.a_clause_that_makes_nothing_is_refused.Goals as goal

pub returns : goal.returns
returns c = unmade_refused
