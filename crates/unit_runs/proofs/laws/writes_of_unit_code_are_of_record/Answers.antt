use Rattle.unit_runs.proofs.WritesOf.{writes-recorded}
use Rattle.unit_runs.proofs.laws.writes_of_unit_code_are_of_record.Goals as goal

pub returns : goal.returns
returns c = writes-recorded
