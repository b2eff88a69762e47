use Rattle.run_events.proofs.Lending.{inputs-lent}
use Rattle.run_events.proofs.storage_laws.inputs_are_lent_by_operands.Goals as goal

pub returns : goal.returns
returns c = inputs-lent
