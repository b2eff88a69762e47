use Rattle.breaking_laws.proofs.PArms.{arm_result_added}
use Rattle.breaking_laws.proofs.part_laws.an_arm_has_results.Goals as goal

pub returns : goal.returns
returns c = arm_result_added
