use Rattle.lowered_ready.proofs.Units.{acyclic}
use Rattle.lowered_ready.proofs.order_laws.translated_units_are_acyclic.Goals as goal

pub returns : goal.returns
returns c = λ p u t. acyclic p u t
