use Rattle.breaking_laws.proofs.PDefs.{count_refused}
use Rattle.breaking_laws.proofs.part_laws.another_number_of_values_is_refused.Goals as goal

pub returns : goal.returns
returns c = count_refused
