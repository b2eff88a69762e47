use Rattle.breaking_laws.proofs.PCases.{case_otherwise_differs}
use Rattle.breaking_laws.proofs.part_laws.last_results_that_differ_are_refused.Goals as goal

pub returns : goal.returns
returns c = case_otherwise_differs
