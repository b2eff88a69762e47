use Rattle.if1_marks.proofs.Known.{order-known}
use Rattle.if1_marks.proofs.laws.the_order_is_known.Goals as goal

pub returns : goal.returns
returns c = order-known
