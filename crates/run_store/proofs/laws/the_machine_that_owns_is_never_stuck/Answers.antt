use Rattle.run_store.proofs.Supply.{never-stuck}
use Rattle.run_store.proofs.laws.the_machine_that_owns_is_never_stuck.Goals as goal

pub returns : goal.returns
returns c = never-stuck
