use Rattle.run_events.proofs.Handing.{entered-with}
use Rattle.run_events.proofs.entered_laws.graphs_are_entered_with_these.Goals as goal

pub returns : goal.returns
returns c = entered-with
