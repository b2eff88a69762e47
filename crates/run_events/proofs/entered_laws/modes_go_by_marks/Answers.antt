use Rattle.run_events.proofs.Modes.{modes-right}
use Rattle.run_events.proofs.entered_laws.modes_go_by_marks.Goals as goal

pub returns : goal.returns
returns c = modes-right
