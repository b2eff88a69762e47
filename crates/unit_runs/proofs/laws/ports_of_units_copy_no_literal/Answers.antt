use Rattle.unit_runs.proofs.Ports.{ports-bare}
use Rattle.unit_runs.proofs.laws.ports_of_units_copy_no_literal.Goals as goal

pub returns : goal.returns
returns c = ports-bare
