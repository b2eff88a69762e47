use Rattle.breaking_laws.proofs.PMade.{through_refused}
use Rattle.breaking_laws.proofs.part_laws.clauses_are_refused_through_a_group.Goals as goal

pub returns : goal.returns
returns c = through_refused
