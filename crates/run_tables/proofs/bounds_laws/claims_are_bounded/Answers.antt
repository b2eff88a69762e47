use Rattle.run_tables.proofs.Bounded.{claims-bounded}
use Rattle.run_tables.proofs.bounds_laws.claims_are_bounded.Goals as goal

pub returns : goal.returns
returns c = claims-bounded
