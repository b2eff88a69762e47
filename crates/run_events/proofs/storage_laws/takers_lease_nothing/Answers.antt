use Rattle.run_events.proofs.Marked.{takers-lease-nothing}
use Rattle.run_events.proofs.storage_laws.takers_lease_nothing.Goals as goal

pub returns : goal.returns
returns c = takers-lease-nothing
