use Rattle.plan_shares.proofs.Runs.{runs-decided}
use Rattle.plan_shares.proofs.laws.runs_of_units_with_tables_are_decided.Goals as goal

pub returns : goal.returns
returns c = runs-decided
