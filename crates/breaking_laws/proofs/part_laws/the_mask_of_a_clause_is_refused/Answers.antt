use Rattle.breaking_laws.proofs.PClauses.{clause_mask_refused}
use Rattle.breaking_laws.proofs.part_laws.the_mask_of_a_clause_is_refused.Goals as goal

pub returns : goal.returns
returns c = clause_mask_refused
