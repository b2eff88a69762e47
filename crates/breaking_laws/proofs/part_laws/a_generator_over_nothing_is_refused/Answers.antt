use Rattle.breaking_laws.proofs.PGenerators.{source_refused}
use Rattle.breaking_laws.proofs.part_laws.a_generator_over_nothing_is_refused.Goals as goal

pub returns : goal.returns
returns c = source_refused
