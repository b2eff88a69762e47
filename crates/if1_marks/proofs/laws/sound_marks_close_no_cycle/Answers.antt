use Rattle.if1_marks.proofs.Taken.{sound-in-order}
use Rattle.if1_marks.proofs.laws.sound_marks_close_no_cycle.Goals as goal

pub returns : goal.returns
returns c = sound-in-order
