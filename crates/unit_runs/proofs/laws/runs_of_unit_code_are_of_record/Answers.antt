use Rattle.unit_runs.proofs.Runs.{runs-recorded}
use Rattle.unit_runs.proofs.laws.runs_of_unit_code_are_of_record.Goals as goal

pub returns : goal.returns
returns c = runs-recorded
