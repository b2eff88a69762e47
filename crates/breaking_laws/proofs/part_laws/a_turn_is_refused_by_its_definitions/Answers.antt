use Rattle.breaking_laws.proofs.PTurns.{turn_defs_refused}
use Rattle.breaking_laws.proofs.part_laws.a_turn_is_refused_by_its_definitions.Goals as goal

pub returns : goal.returns
returns c = turn_defs_refused
