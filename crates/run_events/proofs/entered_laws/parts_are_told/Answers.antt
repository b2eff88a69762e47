use Rattle.run_events.proofs.Stages.{parts-told}
use Rattle.run_events.proofs.entered_laws.parts_are_told.Goals as goal

pub returns : goal.returns
returns c = parts-told
