use Rattle.if1_marks.proofs.Taken.{taken-alone}
use Rattle.if1_marks.proofs.laws.the_taker_has_one_edge.Goals as goal

pub returns : goal.returns
returns c = taken-alone
