use Rattle.if1_marks.proofs.Taken.{taker-last}
use Rattle.if1_marks.proofs.laws.the_taker_is_last.Goals as goal

pub returns : goal.returns
returns c = taker-last
