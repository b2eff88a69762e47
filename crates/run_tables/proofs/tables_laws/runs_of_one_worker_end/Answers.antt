use Rattle.run_tables.proofs.Decided.{runs-end}
use Rattle.run_tables.proofs.tables_laws.runs_of_one_worker_end.Goals as goal

pub returns : goal.returns
returns c = runs-end
