use Rattle.meaning_laws.proofs.Agree.{limits_same}
use Rattle.meaning_laws.proofs.laws.limits_agree.Goals as goal

pub returns : goal.returns
returns c = limits_same
