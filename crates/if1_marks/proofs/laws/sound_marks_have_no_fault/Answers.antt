use Rattle.if1_marks.proofs.Blameless.{sound-faultless}
use Rattle.if1_marks.proofs.laws.sound_marks_have_no_fault.Goals as goal

pub returns : goal.returns
returns c = sound-faultless
