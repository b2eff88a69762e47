use Rattle.run_events.proofs.There.{there-kept}
use Rattle.run_events.proofs.entered_laws.given_ports_stay_full.Goals as goal

pub returns : goal.returns
returns c = there-kept
