use Rattle.run_tables.proofs.Decided.{costs-decided}
use Rattle.run_tables.proofs.tables_laws.costs_are_decided.Goals as goal

pub returns : goal.returns
returns c = costs-decided
