use Rattle.run_tables.proofs.Histories.{tables-there}
use Rattle.run_tables.proofs.tables_laws.histories_have_tables.Goals as goal

pub returns : goal.returns
returns c = tables-there
