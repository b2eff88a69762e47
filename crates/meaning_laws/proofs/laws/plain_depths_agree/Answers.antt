use Rattle.meaning_laws.proofs.Agree.{stable, one_value, calls_stable, calls_one_value}
use Rattle.meaning_laws.proofs.laws.plain_depths_agree.Goals as goal

pub returns : goal.returns
returns c = record { greater = stable; one_value = one_value; calls_greater = calls_stable; calls_one_value = calls_one_value }
