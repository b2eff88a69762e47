use Rattle.plan_tables.proofs.Plans.{tables-are}
use Rattle.plan_tables.proofs.laws.tables_are_of_plans.Goals as goal

pub returns : goal.returns
returns c = tables-are
