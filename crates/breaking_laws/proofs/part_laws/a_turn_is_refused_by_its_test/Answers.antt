use Rattle.breaking_laws.proofs.PTurns.{turn_test_refused}
use Rattle.breaking_laws.proofs.part_laws.a_turn_is_refused_by_its_test.Goals as goal

pub returns : goal.returns
returns c = turn_test_refused
