use Rattle.run_tables.proofs.Bounded.{workers-bounded}
use Rattle.run_tables.proofs.bounds_laws.claims_of_workers_are_bounded.Goals as goal

pub returns : goal.returns
returns c = workers-bounded
