use Rattle.if1_marks.proofs.Unmarked.{unmarked-has-none}
use Rattle.if1_marks.proofs.laws.unmarked_units_have_no_marks.Goals as goal

pub returns : goal.returns
returns c = unmarked-has-none
