use Rattle.breaking_laws.proofs.PTurns.{renewing_refused}
use Rattle.breaking_laws.proofs.part_laws.the_definitions_of_a_turn_are_refused.Goals as goal

pub returns : goal.returns
returns c = renewing_refused
