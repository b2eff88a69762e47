use Rattle.if1_marks.proofs.AlikeUnits.{alike-ready}
use Rattle.if1_marks.proofs.laws.alike_units_are_ready.Goals as goal

pub returns : goal.returns
returns c = alike-ready
