use Rattle.plan_shares.proofs.Runs.{runs-seen}
use Rattle.plan_shares.proofs.laws.runs_of_units_through_paths_are_decided.Goals as goal

pub returns : goal.returns
returns c = runs-seen
