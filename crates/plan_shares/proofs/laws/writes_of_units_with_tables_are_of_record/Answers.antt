use Rattle.plan_shares.proofs.Runs.{writes-of-units}
use Rattle.plan_shares.proofs.laws.writes_of_units_with_tables_are_of_record.Goals as goal

pub returns : goal.returns
returns c = writes-of-units
