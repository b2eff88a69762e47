use Rattle.unit_runs.proofs.WritesOf.{quick-writes}
use Rattle.unit_runs.proofs.laws.quick_code_writes_as_much.Goals as goal

pub returns : goal.returns
returns c = quick-writes
