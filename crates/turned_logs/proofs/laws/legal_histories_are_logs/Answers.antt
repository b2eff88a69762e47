use Rattle.turned_logs.proofs.Turned.{legal-logs}
use Rattle.turned_logs.proofs.laws.legal_histories_are_logs.Goals as goal

pub returns : goal.returns
returns c = legal-logs
