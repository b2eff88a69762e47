use Rattle.breaking_laws.proofs.PGenerators.{to_refused}
use Rattle.breaking_laws.proofs.part_laws.the_upper_bound_of_a_generator_is_refused.Goals as goal

pub returns : goal.returns
returns c = to_refused
