use Rattle.breaking_laws.proofs.PGenerators.{after_groups}
use Rattle.breaking_laws.proofs.part_laws.a_later_group_is_refused.Goals as goal

pub returns : goal.returns
returns c = after_groups
