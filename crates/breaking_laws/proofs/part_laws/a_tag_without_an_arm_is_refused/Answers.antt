use Rattle.breaking_laws.proofs.PCases.{case_no_arm}
use Rattle.breaking_laws.proofs.part_laws.a_tag_without_an_arm_is_refused.Goals as goal

pub returns : goal.returns
returns c = case_no_arm
