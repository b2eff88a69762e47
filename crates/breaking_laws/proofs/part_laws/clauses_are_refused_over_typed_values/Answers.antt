use Rattle.breaking_laws.proofs.PMade.{made_refused}
use Rattle.breaking_laws.proofs.part_laws.clauses_are_refused_over_typed_values.Goals as goal

pub returns : goal.returns
returns c = made_refused
