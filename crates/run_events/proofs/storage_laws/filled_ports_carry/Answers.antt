use Rattle.run_events.proofs.Carrying.{ports-kept}
use Rattle.run_events.proofs.storage_laws.filled_ports_carry.Goals as goal

pub returns : goal.returns
returns c = ports-kept
