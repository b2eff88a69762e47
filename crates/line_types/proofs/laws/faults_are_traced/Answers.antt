use Rattle.line_types.proofs.Programs.{faults-traced}
use Rattle.line_types.proofs.laws.faults_are_traced.Goals as goal

pub returns : goal.returns
returns c = faults-traced
