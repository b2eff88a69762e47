use Rattle.run_events.proofs.Marked.{takers-alone}
use Rattle.run_events.proofs.storage_laws.takers_are_alone.Goals as goal

pub returns : goal.returns
returns c = takers-alone
