use Rattle.run_events.proofs.Iterated.{iterations-told}
use Rattle.run_events.proofs.entered_laws.iterations_are_told.Goals as goal

pub returns : goal.returns
returns c = iterations-told
