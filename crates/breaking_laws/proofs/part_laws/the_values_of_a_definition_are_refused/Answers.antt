use Rattle.breaking_laws.proofs.PDefs.{values_refused}
use Rattle.breaking_laws.proofs.part_laws.the_values_of_a_definition_are_refused.Goals as goal

pub returns : goal.returns
returns c = values_refused
