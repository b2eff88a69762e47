use Rattle.run_store.proofs.Whole.{store-exact}
use Rattle.run_store.proofs.laws.the_machine_that_owns_is_exact.Goals as goal

pub returns : goal.returns
returns c = store-exact
