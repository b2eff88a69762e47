use Rattle.run_tables.proofs.Bounded.{slices-few}
use Rattle.run_tables.proofs.bounds_laws.slices_are_few.Goals as goal

pub returns : goal.returns
returns c = slices-few
