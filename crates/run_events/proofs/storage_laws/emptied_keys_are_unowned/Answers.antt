use Rattle.run_events.proofs.Marked.{emptied-unowned}
use Rattle.run_events.proofs.storage_laws.emptied_keys_are_unowned.Goals as goal

pub returns : goal.returns
returns c = emptied-unowned
