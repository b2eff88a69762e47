use Rattle.breaking_laws.proofs.PCases.{case_arms_refused}
use Rattle.breaking_laws.proofs.part_laws.a_tagcase_is_refused_by_its_arms.Goals as goal

pub returns : goal.returns
returns c = case_arms_refused
