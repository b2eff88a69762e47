use Rattle.if1_marks.proofs.Ways.{ways-found}
use Rattle.if1_marks.proofs.laws.ways_are_found.Goals as goal

pub returns : goal.returns
returns c = ways-found
