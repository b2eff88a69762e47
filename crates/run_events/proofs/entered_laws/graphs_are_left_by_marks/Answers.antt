use Rattle.run_events.proofs.Handing.{left-by-marks}
use Rattle.run_events.proofs.entered_laws.graphs_are_left_by_marks.Goals as goal

pub returns : goal.returns
returns c = left-by-marks
