use Rattle.lowered_units.proofs.OneUnit.{one-unit}
use Rattle.lowered_units.proofs.laws.a_program_is_one_unit.Goals as goal

pub returns : goal.returns
returns c = one-unit
