use Rattle.run_call.proofs.OneRun.{none_beyond}
use Rattle.run_call.proofs.laws.no_run_passes_the_limit.Goals as goal

pub returns : goal.returns
returns c = none_beyond
