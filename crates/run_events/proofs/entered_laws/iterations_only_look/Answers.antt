use Rattle.run_events.proofs.Iterated.{iterations-look}
use Rattle.run_events.proofs.entered_laws.iterations_only_look.Goals as goal

pub returns : goal.returns
returns c = iterations-look
