use Rattle.run_events.proofs.Lending.{arms-lent}
use Rattle.run_events.proofs.storage_laws.arms_are_lent_by_operands.Goals as goal

pub returns : goal.returns
returns c = arms-lent
