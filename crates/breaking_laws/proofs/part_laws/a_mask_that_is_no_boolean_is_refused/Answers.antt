use Rattle.breaking_laws.proofs.PClauses.{mask_refused}
use Rattle.breaking_laws.proofs.part_laws.a_mask_that_is_no_boolean_is_refused.Goals as goal

pub returns : goal.returns
returns c = mask_refused
