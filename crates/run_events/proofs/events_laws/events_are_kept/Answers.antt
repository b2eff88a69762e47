use Rattle.run_events.proofs.Events.{events-kept}
use Rattle.run_events.proofs.events_laws.events_are_kept.Goals as goal

pub returns : goal.returns
returns c = events-kept
