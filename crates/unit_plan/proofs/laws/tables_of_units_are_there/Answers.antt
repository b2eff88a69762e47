use Rattle.unit_plan.proofs.Tables.{tables-there}
use Rattle.unit_plan.proofs.laws.tables_of_units_are_there.Goals as goal

pub returns : goal.returns
returns c = tables-there
