use Rattle.run_store.proofs.Refining.{refines}
use Rattle.run_store.proofs.laws.the_machine_that_owns_refines.Goals as goal

pub returns : goal.returns
returns c = refines
