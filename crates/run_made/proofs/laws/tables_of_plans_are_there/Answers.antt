use Rattle.run_made.proofs.Tables.{tables-there}
use Rattle.run_made.proofs.laws.tables_of_plans_are_there.Goals as goal

pub returns : goal.returns
returns c = tables-there
