use Rattle.if1_order.proofs.Units.{ports_linked}
use Rattle.if1_order.proofs.circles.ports_link.Goals as goal

pub returns : goal.returns
returns c = ports_linked
