use Rattle.run_tables.proofs.Once.{items-once}
use Rattle.run_tables.proofs.sums_laws.items_add_once.Goals as goal

pub returns : goal.returns
returns c = items-once
