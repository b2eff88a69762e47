use Rattle.run_events.proofs.There.{operands-there}
use Rattle.run_events.proofs.entered_laws.operands_are_there.Goals as goal

pub returns : goal.returns
returns c = operands-there
