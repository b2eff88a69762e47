use Rattle.if1_marks.proofs.Faultless.{faultless-sound}
use Rattle.if1_marks.proofs.laws.marks_without_fault_are_sound.Goals as goal

pub returns : goal.returns
returns c = faultless-sound
