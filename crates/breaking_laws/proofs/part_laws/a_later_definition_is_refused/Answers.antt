use Rattle.breaking_laws.proofs.PDefs.{after_defs}
use Rattle.breaking_laws.proofs.part_laws.a_later_definition_is_refused.Goals as goal

pub returns : goal.returns
returns c = after_defs
