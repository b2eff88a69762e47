use Rattle.mark_units.proofs.ReadyMarks.{marks-ready}
use Rattle.mark_units.proofs.laws.marks_made_keep_units_ready.Goals as goal

pub returns : goal.returns
returns c = marks-ready
