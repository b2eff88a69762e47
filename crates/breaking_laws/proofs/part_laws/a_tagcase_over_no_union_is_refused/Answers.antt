use Rattle.breaking_laws.proofs.PCases.{case_no_union_refused}
use Rattle.breaking_laws.proofs.part_laws.a_tagcase_over_no_union_is_refused.Goals as goal

pub returns : goal.returns
returns c = case_no_union_refused
