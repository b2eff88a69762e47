use Rattle.if1_write.proofs.Whole.{written}
use Rattle.if1_write.proofs.laws.written_is_read.Goals as goal

pub returns : goal.returns
returns c = written
