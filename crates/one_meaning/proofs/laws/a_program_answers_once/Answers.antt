use Rattle.one_meaning.proofs.Once.{program_once}
use Rattle.one_meaning.proofs.laws.a_program_answers_once.Goals as goal

pub returns : goal.returns
returns c = program_once c.plain_depths_agree.ensures.calls_one_value c.words_are_read_or_refused.ensures
