use Rattle.meaning_laws.proofs.Numbers.{turns_descend}
use Rattle.meaning_laws.proofs.laws.turns_go_one_less.Goals as goal

pub returns : goal.returns
returns c = turns_descend
