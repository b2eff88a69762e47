use Rattle.if1_given.proofs.Units.{gives}
use Rattle.if1_given.proofs.laws.a_faultless_text_gives_a_unit.Goals as goal

pub returns : goal.returns
returns c = gives
