use Rattle.run_events.proofs.Served.{claims-served}
use Rattle.run_events.proofs.events_laws.claims_are_served.Goals as goal

pub returns : goal.returns
returns c = claims-served
