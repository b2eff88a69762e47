use Rattle.run_events.proofs.Carrying.{told-carried}
use Rattle.run_events.proofs.storage_laws.told_operands_are_carried.Goals as goal

pub returns : goal.returns
returns c = told-carried
