use Rattle.breaking_laws.proofs.PDefs.{retyped_refused}
use Rattle.breaking_laws.proofs.part_laws.another_type_of_a_loop_name_is_refused.Goals as goal

pub returns : goal.returns
returns c = retyped_refused
