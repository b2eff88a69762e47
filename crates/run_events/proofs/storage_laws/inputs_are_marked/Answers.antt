use Rattle.run_events.proofs.Marked.{inputs-marked}
use Rattle.run_events.proofs.storage_laws.inputs_are_marked.Goals as goal

pub returns : goal.returns
returns c = inputs-marked
