use Rattle.run_ranges.proofs.Units.{unit-code-agrees}
use Rattle.run_ranges.proofs.laws.unit_code_agrees.Goals as goal

pub returns : goal.returns
returns c = unit-code-agrees
