use Rattle.turned_logs.proofs.Turned.{tests-same}
use Rattle.turned_logs.proofs.laws.logs_tell_what_was_claimed.Goals as goal

pub returns : goal.returns
returns c = tests-same
