use Rattle.run_events.proofs.Served.{keeping-begins}
use Rattle.run_events.proofs.events_laws.what_is_kept_begins.Goals as goal

pub returns : goal.returns
returns c = keeping-begins
