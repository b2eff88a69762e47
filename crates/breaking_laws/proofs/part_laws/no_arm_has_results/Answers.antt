use Rattle.breaking_laws.proofs.PArms.{no_results}
use Rattle.breaking_laws.proofs.part_laws.no_arm_has_results.Goals as goal

pub returns : goal.returns
returns c = no_results
