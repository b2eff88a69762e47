use Rattle.breaking_laws.proofs.PTurns.{initial_defs_refused}
use Rattle.breaking_laws.proofs.part_laws.a_loop_is_refused_by_its_definitions.Goals as goal

pub returns : goal.returns
returns c = initial_defs_refused
