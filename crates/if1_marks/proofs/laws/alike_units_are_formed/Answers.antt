use Rattle.if1_marks.proofs.AlikeUnits.{alike-formed}
use Rattle.if1_marks.proofs.laws.alike_units_are_formed.Goals as goal

pub returns : goal.returns
returns c = alike-formed
