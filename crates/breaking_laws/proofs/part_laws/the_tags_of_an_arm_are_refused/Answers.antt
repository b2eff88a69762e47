use Rattle.breaking_laws.proofs.PTags.{arm_tags_refused}
use Rattle.breaking_laws.proofs.part_laws.the_tags_of_an_arm_are_refused.Goals as goal

pub returns : goal.returns
returns c = arm_tags_refused
