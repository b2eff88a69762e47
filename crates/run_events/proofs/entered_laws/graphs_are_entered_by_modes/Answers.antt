use Rattle.run_events.proofs.Handing.{entered-by-modes}
use Rattle.run_events.proofs.entered_laws.graphs_are_entered_by_modes.Goals as goal

pub returns : goal.returns
returns c = entered-by-modes
