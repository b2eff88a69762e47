use Rattle.run_events.proofs.Stages.{stages-told}
use Rattle.run_events.proofs.entered_laws.stages_are_told.Goals as goal

pub returns : goal.returns
returns c = stages-told
