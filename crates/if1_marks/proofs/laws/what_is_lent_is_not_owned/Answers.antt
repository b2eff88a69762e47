use Rattle.if1_marks.proofs.Lent.{are-lent}
use Rattle.if1_marks.proofs.laws.what_is_lent_is_not_owned.Goals as goal

pub returns : goal.returns
returns c = are-lent
