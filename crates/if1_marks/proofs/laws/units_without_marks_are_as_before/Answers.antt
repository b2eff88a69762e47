use Rattle.if1_marks.proofs.AlikeUnits.{unmarked-as-before}
use Rattle.if1_marks.proofs.laws.units_without_marks_are_as_before.Goals as goal

pub returns : goal.returns
returns c = unmarked-as-before
