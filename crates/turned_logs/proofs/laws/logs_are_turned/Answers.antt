use Rattle.turned_logs.proofs.Turned.{logs-turned}
use Rattle.turned_logs.proofs.laws.logs_are_turned.Goals as goal

pub returns : goal.returns
returns c = logs-turned
