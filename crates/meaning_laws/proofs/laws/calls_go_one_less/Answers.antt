use Rattle.meaning_laws.proofs.Agree.{nothing_at_zero, body_one_less}
use Rattle.meaning_laws.proofs.laws.calls_go_one_less.Goals as goal

pub returns : goal.returns
returns c = record { none = nothing_at_zero; body = body_one_less }
