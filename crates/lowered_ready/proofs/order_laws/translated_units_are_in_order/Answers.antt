use Rattle.lowered_ready.proofs.Units.{all-in-order}
use Rattle.lowered_ready.proofs.order_laws.translated_units_are_in_order.Goals as goal

pub returns : goal.returns
returns c = λ p u t. all-in-order p u t
