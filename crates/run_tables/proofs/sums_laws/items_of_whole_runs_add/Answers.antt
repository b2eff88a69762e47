use Rattle.run_tables.proofs.Each.{items-add}
use Rattle.run_tables.proofs.sums_laws.items_of_whole_runs_add.Goals as goal

pub returns : goal.returns
returns c = items-add
