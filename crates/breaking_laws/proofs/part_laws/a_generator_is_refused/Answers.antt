use Rattle.breaking_laws.proofs.PGenerators.{one_generator_refused}
use Rattle.breaking_laws.proofs.part_laws.a_generator_is_refused.Goals as goal

pub returns : goal.returns
returns c = one_generator_refused
