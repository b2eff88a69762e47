use Rattle.lowered_ready.proofs.Types.{types-hold}
use Rattle.lowered_ready.proofs.type_laws.right_programs_have_typed_units.Goals as goal

pub returns : goal.returns
returns c = types-hold
