use Rattle.if1_marks.proofs.Unlisted.{unmarked-sound}
use Rattle.if1_marks.proofs.laws.no_marks_are_sound.Goals as goal

pub returns : goal.returns
returns c = unmarked-sound
