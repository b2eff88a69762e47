use Rattle.run_tables.proofs.Along.{sums-along}
use Rattle.run_tables.proofs.sums_laws.finished_items_add_up.Goals as goal

pub returns : goal.returns
returns c = sums-along
