use Rattle.run_events.proofs.Owning.{taken-owned}
use Rattle.run_events.proofs.storage_laws.taken_inputs_are_owned.Goals as goal

pub returns : goal.returns
returns c = taken-owned
