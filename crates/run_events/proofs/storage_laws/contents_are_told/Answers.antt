use Rattle.run_events.proofs.Carrying.{contents-told}
use Rattle.run_events.proofs.storage_laws.contents_are_told.Goals as goal

pub returns : goal.returns
returns c = contents-told
