use Rattle.breaking_laws.proofs.PArms.{after_arms}
use Rattle.breaking_laws.proofs.part_laws.a_later_arm_is_refused.Goals as goal

pub returns : goal.returns
returns c = after_arms
