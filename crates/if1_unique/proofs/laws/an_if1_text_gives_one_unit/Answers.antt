use Rattle.if1_unique.proofs.Units.{one}
use Rattle.if1_unique.proofs.laws.an_if1_text_gives_one_unit.Goals as goal

pub returns : goal.returns
returns c = one
