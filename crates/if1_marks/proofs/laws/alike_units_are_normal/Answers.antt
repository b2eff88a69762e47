use Rattle.if1_marks.proofs.AlikeUnits.{alike-normal}
use Rattle.if1_marks.proofs.laws.alike_units_are_normal.Goals as goal

pub returns : goal.returns
returns c = alike-normal
