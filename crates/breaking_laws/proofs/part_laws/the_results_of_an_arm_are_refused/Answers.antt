use Rattle.breaking_laws.proofs.PArms.{arm_results_refused}
use Rattle.breaking_laws.proofs.part_laws.the_results_of_an_arm_are_refused.Goals as goal

pub returns : goal.returns
returns c = arm_results_refused
