use Rattle.breaking_laws.proofs.PCases.{case_otherwise_refused}
use Rattle.breaking_laws.proofs.part_laws.a_tagcase_is_refused_by_its_last_results.Goals as goal

pub returns : goal.returns
returns c = case_otherwise_refused
