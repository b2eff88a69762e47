use Rattle.run_meaning.proofs.Within.{sources-run}
use Rattle.run_meaning.proofs.laws.sources_within_the_limit_are_run.Goals as goal

pub returns : goal.returns
returns c = sources-run c.plain_depths_agree.ensures.calls_one_value c.words_are_read_or_refused.ensures
