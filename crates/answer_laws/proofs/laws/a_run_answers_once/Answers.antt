use Rattle.answer_laws.proofs.Runs.{run_once}
use Rattle.answer_laws.proofs.laws.a_run_answers_once.Goals as goal

pub returns : goal.returns
returns c = run_once c.words_are_read_or_refused.ensures c.no_run_passes_the_limit.ensures c.words_have_one_run.ensures
