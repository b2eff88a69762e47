use Rattle.run_events.proofs.Lending.{operands-first}
use Rattle.run_events.proofs.storage_laws.operands_are_first.Goals as goal

pub returns : goal.returns
returns c = operands-first
