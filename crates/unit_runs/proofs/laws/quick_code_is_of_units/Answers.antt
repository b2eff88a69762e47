use Rattle.unit_runs.proofs.QuickCode.{quick-unit-code}
use Rattle.unit_runs.proofs.laws.quick_code_is_of_units.Goals as goal

pub returns : goal.returns
returns c = quick-unit-code
