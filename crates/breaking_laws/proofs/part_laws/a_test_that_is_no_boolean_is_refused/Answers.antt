use Rattle.breaking_laws.proofs.PTurns.{truth_refused}
use Rattle.breaking_laws.proofs.part_laws.a_test_that_is_no_boolean_is_refused.Goals as goal

pub returns : goal.returns
returns c = truth_refused
