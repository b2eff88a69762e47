use Rattle.breaking_laws.proofs.PDefs.{targets_refused}
use Rattle.breaking_laws.proofs.part_laws.the_targets_of_a_definition_are_refused.Goals as goal

pub returns : goal.returns
returns c = targets_refused
