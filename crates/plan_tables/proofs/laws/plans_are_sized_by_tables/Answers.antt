use Rattle.plan_tables.proofs.Cells.{sized-by-tables}
use Rattle.plan_tables.proofs.laws.plans_are_sized_by_tables.Goals as goal

pub returns : goal.returns
returns c = sized-by-tables
