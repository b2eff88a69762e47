use Rattle.breaking_laws.proofs.PCases.{case_arms_differ}
use Rattle.breaking_laws.proofs.part_laws.arms_that_differ_are_refused.Goals as goal

pub returns : goal.returns
returns c = case_arms_differ
