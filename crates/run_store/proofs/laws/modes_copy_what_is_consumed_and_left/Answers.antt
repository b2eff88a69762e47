use Rattle.run_store.proofs.Ports.{modes-copy}
use Rattle.run_store.proofs.laws.modes_copy_what_is_consumed_and_left.Goals as goal

pub returns : goal.returns
returns c = modes-copy
