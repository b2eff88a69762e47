use Rattle.breaking_laws.proofs.PCases.{case_subject_refused}
use Rattle.breaking_laws.proofs.part_laws.a_tagcase_is_refused_by_its_subject.Goals as goal

pub returns : goal.returns
returns c = case_subject_refused
