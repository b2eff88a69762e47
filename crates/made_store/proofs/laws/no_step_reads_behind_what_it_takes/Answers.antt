use Rattle.made_store.proofs.Units.{made-last}
use Rattle.made_store.proofs.laws.no_step_reads_behind_what_it_takes.Goals as goal

pub returns : goal.returns
returns c = made-last
