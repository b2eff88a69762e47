use Rattle.unit_laws.proofs.TypedRuns.{ports-typed}
use Rattle.unit_laws.proofs.laws.what_ports_carry_is_of_their_types.Goals as goal

pub returns : goal.returns
returns c = ports-typed
